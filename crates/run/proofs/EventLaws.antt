-- A call made and its line; the whole text. Assumes nothing.
use Prim.Native.Nat.{ℕ, ◌+◌, ◌-◌, ◌≤◌, ◌<◌}
use native.Mathlib.Omega.{arith}
use mathlib.Core.Bool.{Bool, true, false, not}
use mathlib.Core.List.{List, ◌++◌, append_assoc}
use Rattle.std.specs.Prelude.{Result, Ok, Err}
use mathlib.Core.Path.{◌≡◌, refl, sym, ap, ◌∙◌}
use borrow.Author.Tests.{eq-eqb, lt-ltb, le-ltb}
use lib.Dec.{ltb}
use lib.ListN.{length, take, drop}
use Rattle.message.specs.Numbers.{number_in}
use Rattle.message.specs.Logs.{Block}
use Rattle.message.proofs.PartLaws.{length-put}
use Rattle.message.proofs.Acceptance.{length_blocks}
use Rattle.message.proofs.TestLaws.{either}
use Rattle.agreement.specs.Sets.{is_yes}
use Rattle.agreement.specs.declared.Answer.{Answer}
use Rattle.bench.specs.Layout.{most_bytes, Lent}
use Rattle.bench.specs.Calls.{Call, begin, receive, act, refused, done, State, Opening, Step}
use Rattle.bench.specs.ByRecord.{open_of, begin_of, receive_of, act_of}
use Rattle.bench.specs.Answers.{held_with, start_reply, taken_reply, made_reply, OpenGives, BeginGives, ReceiveGives, ActGives}
use Rattle.bench.specs.Record.{Bench}
use Rattle.bench.specs.Refusals.{refusal_number}
use Rattle.bench.specs.declared.refusal.Refusal.{Refusal}
use Rattle.bench.specs.declared.Made.{Made}
use Rattle.bench.specs.declared.Offer.{Offer}
use Rattle.bench.specs.declared.Made.TheVariants as makings
use Rattle.bench.proofs.Replies.{start_done, start_refused, taken_word, taken_refused, made_nothing, made_log, made_proposal, made_refused}
use Rattle.bench.proofs.Buffer.{same_reply, same_held}
use Rattle.run.specs.declared.Answered.{Answered}
use Rattle.run.specs.declared.Answered.TheVariants as answers
use Rattle.run.specs.Texts.{ascii, decimal}
use Rattle.run.specs.Roll.{most_roll, misshapen, events_of, benches_of, own_of, kind_at, length_at, begin_kind, receive_kind, act_kind, fresh_buffer}
use Rattle.run.specs.Roll.{offered_at, priority_at, call_at, calls_of}
use Rattle.run.specs.RollText.{made_text, mark_text, reply_text, line_for, line_of, step_of, lines_of, no_roll_text, first_line, is_done}
use Rattle.run.specs.RollText.{opened_text, fresh_lists, text_of, WritesText}
use Rattle.run.specs.RollSteps.{end_text, start_text, taken_text, stand_text, acted_text, answer_text, offer_at, Puts, EventGives, Runs}
use Rattle.run.specs.Held.{opening_of, open_refuses, opened_on}
use Rattle.run.proofs.TextLaws.{puts_then}

-- ---- the line of a call, by the code's answer

start_line : (a : Result (Unit {0}) Refusal) (t : Step) (beat : ℕ) → start_reply a ≡ t.answer.reply
    → ascii "begin " ++ (decimal beat ++ start_text a) ≡ line_of (begin beat) t
unfolding line_for reply_text start_text end_text
start_line (Ok _) t beat e = rw (← e, start_done) (sym (append_assoc (ascii "begin ") (decimal beat) (ascii " ok\n")))
start_line (Err why) t beat e =
    rw (← e, start_refused why) (sym (append_assoc (ascii "begin ") (decimal beat) (end_text (decimal (refusal_number why)))))

taken_line : (a : Result Answer Refusal) (t : Step) (bytes : List ℕ) → taken_reply a ≡ t.answer.reply → taken_text a ≡ line_of (receive bytes) t
unfolding line_for reply_text taken_text end_text
taken_line (Ok a) t bytes e = rw (← e, taken_word a)
taken_line (Err why) t bytes e = rw (← e, taken_refused why)

stand_end : (xs : List ℕ) (d : ℕ) (parted : Bool)
    → xs ++ stand_text d parted ≡ (xs ++ (ascii " " ++ (decimal d ++ mark_text parted))) ++ ascii "\n"
unfolding stand_text
stand_end xs d parted = simp append_assoc

acted_line : (a : Result Made Refusal) (t : Step) (block : Block) (priority : ℕ) (buffer out : List ℕ) → made_reply out a ≡ t.answer.reply
    → acted_text t.held.bench.decided (is_yes t.held.bench.parted) a ≡ line_of (act block priority buffer) t
unfolding line_for reply_text acted_text made_text end_text
acted_line (Ok makings.Nothing) t block priority buffer out e =
    rw (← e, made_nothing out)
    (ap (λ (l : List ℕ). ascii "act " ++ l) (stand_end (ascii "none 0") t.held.bench.decided (is_yes t.held.bench.parted)))
acted_line (Ok (makings.Log k)) t block priority buffer out e =
    rw (← e, made_log out k, length_blocks out k)
    (ap (λ (l : List ℕ). ascii "act log " ++ l) (stand_end (decimal k) t.held.bench.decided (is_yes t.held.bench.parted)))
acted_line (Ok (makings.Proposal k)) t block priority buffer out e =
    rw (← e, made_proposal out k, length_blocks out k)
    (ap (λ (l : List ℕ). ascii "act proposal " ++ l) (stand_end (decimal k) t.held.bench.decided (is_yes t.held.bench.parted)))
acted_line (Err why) t block priority buffer out e = rw (← e, made_refused out why)

-- ---- event i, by its kind

pub offer_is : (s : List ℕ) (a n p c : ℕ) → n ≡ number_in 8 s a → p ≡ number_in 8 s (a + 8) → c ≡ number_in 2 s (a + 16)
    → record { name = n; priority = p; count = c } ≡ offer_at s a
unfolding offer_at
offer_is s a n p c e f g = rw (e, f, g)

module _ (s : List ℕ) (i a : ℕ) where
  call_begin : (beat : ℕ) → kind_at s i ≡ begin_kind → beat ≡ number_in 4 s a → call_at s i a ≡ begin beat
  unfolding call_at
  call_begin beat k e = rw (eq-eqb (kind_at s i) begin_kind k, ← e)

  call_receive : (k : ℕ) → kind_at s i ≡ receive_kind → k ≡ length_at s i
      → call_at s i a ≡ receive (take (a + k - a) (drop a s))
  unfolding call_at
  call_receive k v e = let n : a + k - a ≡ length_at s i = omega arith in rw (v, n)

  call_act : kind_at s i ≡ act_kind → call_at s i a ≡ act (offered_at s a) (priority_at s a) fresh_buffer
  unfolding call_at
  call_act v = rw v

-- ---- the call of event i, by what it gave

gives : (s : List ℕ) (i a : ℕ) (x y : State) (c : Call) (r : Answered) → call_at s i a ≡ c → y ≡ (step_of x c).held
    → answer_text (step_of x c).held.bench.decided (is_yes (step_of x c).held.bench.parted) r ≡ line_of c (step_of x c)
    → EventGives (call_at s i a) x r y
gives s i a x y c r e f g = rw (e, f) (record { left = refl; line = g })

module _ (s : List ℕ) (i a : ℕ) (x : State) (b : Bench) (ns cs ts : List ℕ) where
  pub begin_gives : (r : Result (Unit {0}) Refusal) (beat : ℕ) → kind_at s i ≡ begin_kind → beat ≡ number_in 4 s a → BeginGives (begin_of x beat) r b ns cs ts
      → EventGives (call_at s i a) x (answers.Begun beat r) (held_with b ns cs ts)
  unfolding answer_text
  begin_gives r beat u v g =
      gives s i a x (held_with b ns cs ts) (begin beat) (answers.Begun beat r) (call_begin s i a beat u v)
      (rw (g.bench, g.name_list, g.count_list, g.total_list))
      (start_line r (begin_of x beat) beat g.answered)

  pub receive_gives : (r : Result Answer Refusal) (k : ℕ) → kind_at s i ≡ receive_kind → k ≡ length_at s i
      → ReceiveGives (receive_of x (take (a + k - a) (drop a s))) r b ns cs ts
      → EventGives (call_at s i a) x (answers.Taken r) (held_with b ns cs ts)
  unfolding answer_text
  receive_gives r k v e g =
      let bytes = take (a + k - a) (drop a s) in
      gives s i a x (held_with b ns cs ts) (receive bytes) (answers.Taken r) (call_receive s i a k v e)
      (rw (g.bench, g.name_list, g.count_list, g.total_list))
      (taken_line r (receive_of x bytes) bytes g.answered)

pub act_gives : (s : List ℕ) (i a : ℕ) (x y : State) (r : Answered) → kind_at s i ≡ act_kind
    → EventGives (act (offered_at s a) (priority_at s a) fresh_buffer) x r y → EventGives (call_at s i a) x r y
act_gives s i a x y r v g = rw (call_act s i a v) g

-- an act, whatever its body
pub acted_gives : (s : List ℕ) (a : ℕ) (x : State) (b : Bench) (ns cs ts : List ℕ) (r : Result Made Refusal) (o : Offer) (l out : List ℕ)
    → o ≡ offer_at s a
    → length l ≡ most_bytes
    → ActGives (act_of x (record { name = o.name; count = o.count }) o.priority l) r b ns cs ts out
    → EventGives (act (offered_at s a) (priority_at s a) fresh_buffer) x (answers.Acted r) (held_with b ns cs ts)
unfolding answer_text offer_at
acted_gives s a x b ns cs ts r o l out w n g =
    let block : Block = record { name = o.name; count = o.count } in
    let c : act (offered_at s a) (priority_at s a) fresh_buffer ≡ act block o.priority fresh_buffer = rw w in
    let e : ltb (length l) most_bytes ≡ ltb (length fresh_buffer) most_bytes = rw n in
    let t : Step = act_of x block o.priority l in
    let first : held_with b ns cs ts ≡ t.held = rw (g.bench, g.name_list, g.count_list, g.total_list) in
    let held : held_with b ns cs ts ≡ (act_of x block o.priority fresh_buffer).held =
    first ∙ same_held x block o.priority l fresh_buffer e in
    rw (c, held) (record {
      left = refl;
      line = acted_line r (act_of x block o.priority fresh_buffer) block o.priority fresh_buffer out
          (g.answered ∙ same_reply x block o.priority l fresh_buffer e);
    })

-- ---- what Open gave

is_not : (t u : Bool) → not t ≡ not u → t ≡ u
is_not true true e = refl
is_not true false e = sym e
is_not false true e = sym e
is_not false false e = refl

module _ (s : List ℕ) (l : Lent) (r : Result (Unit {0}) Refusal) (b : Bench) (ns cs ts : List ℕ)
    (g : OpenGives (opening_of s l) l r b ns cs ts) where
  pub is_open : r ≡ Ok tt → false ≡ open_refuses s l
  is_open e = let d : done ≡ (opening_of s l).reply = sym start_done ∙ ap start_reply (sym e) ∙ g.answered in rw (← d)

  pub is_shut : (why : Refusal) → r ≡ Err why → true ≡ open_refuses s l
  is_shut why e =
      let d : refused (refusal_number why) ≡ (opening_of s l).reply = sym (start_refused why) ∙ ap start_reply (sym e) ∙ g.answered in
      rw (← d)

  pub opens : b ≡ (opening_of s l).bench
  opens = g.bench

-- ---- the whole text

-- into the lent buffer
module _ (s before : List ℕ) where
  pub text_scant : length before < most_roll → WritesText s before 0 before
  text_scant h = record
      { answered = rw (lt-ltb (length before) most_roll h); fits = omega arith; buffer = rw (lt-ltb (length before) most_roll h) }

  module _ (room : most_roll ≤ length before) (q : ℕ) (after : List ℕ) where
    text_is : Puts (text_of s) 0 before q after → q ≤ most_roll → WritesText s before q after
    text_is f k = record {
      answered = rw (le-ltb (length before) most_roll room) (f.place ∙ omega arith);
      fits = let n = ap length f.text ∙ length-put before 0 (text_of s) in omega arith;
      buffer = rw (le-ltb (length before) most_roll room) f.text;
    }

    pub text_none : misshapen s ≡ true → Puts no_roll_text 0 before q after → WritesText s before q after
    unfolding text_of
    text_none e f = text_is (rw e f) (omega (arith, f.place))

    -- Open refuses, or not
    module _ (e : misshapen s ≡ false) where
      pub text_shut : open_refuses s fresh_lists ≡ true → Puts no_roll_text 0 before q after → WritesText s before q after
      unfolding text_of opened_text
      text_shut g f = text_is (rw (e, is_not (is_done (opening_of s fresh_lists).reply) false g) f) (omega (arith, f.place))

      pub text_whole : open_refuses s fresh_lists ≡ false → (b : Bench) → b ≡ (opening_of s fresh_lists).bench → (p : ℕ) (m : List ℕ)
          → Puts (first_line (own_of s) (benches_of s)) 0 before p m
          → (k : ℕ) → k ≡ events_of s → (y : State)
          → Runs true s k (record { bench = b; lent = fresh_lists }) p m y q after → WritesText s before q after
      unfolding text_of opened_text
      text_whole g b o p m h k n y ran =
          let lines : Puts (lines_of (record { bench = b; lent = fresh_lists }) (calls_of s)) p m q after = rw n at ran.lines in
          text_is
          (rw (e, is_not (is_done (opening_of s fresh_lists).reply) true g)
          (puts_then (first_line (own_of s) (benches_of s)) (lines_of (opened_on s fresh_lists) (calls_of s)) 0 before p m q after h
          (rw o at lines)))
          (ran.short refl)

-- so an answer of 0 says that the buffer is too short, and nothing else
opened_some : (s : List ℕ) (l : Lent) (o : Opening) → 0 < length (opened_text s l o)
unfolding opened_text first_line
opened_some s l o = either (is_done o.reply) (λ did. rw did (omega arith)) (λ not. rw not (omega arith))

pub text_some : (s : List ℕ) → 0 < length (text_of s)
unfolding text_of
text_some s =
    either (misshapen s) (λ t. rw t (omega arith)) (λ t. rw t (opened_some s fresh_lists (open_of (benches_of s) (own_of s) fresh_lists)))
