-- The premises of demand 3 as tests of a volume that is written out, to be computed: a test that holds gives the premise. Assumes nothing.
use Prim.Native.Nat.{ℕ, ◌≤◌}
use native.Mathlib.Omega.{arith}
use mathlib.Core.Path.{◌≡◌, sym, ap, subst, ◌∙◌}
use mathlib.Core.Logic.{◌⊎◌, inl, inr}
use mathlib.Core.List.Memᴰ
use mathlib.Core.List.{List, [], ◌∷◌, ◌++◌, append-nil, append_assoc, Memᴰ as Mem}
use mathlib.Core.Option.{Option, some, none}
use mathlib.Core.Bool.{Bool, true, false, not, ◌&&◌, false≢true, and-eq-true_iff}
use lib.Dec.{eqb, leb, ltb}
use borrow.Author.Tests.{eqb-true, ne_eqb, ltb-true, lt-ltb, le-leb}
use Rattle.message.specs.Logs.{same_log}
use Rattle.message.specs.Message.{Content, Meaning, log_message, proposal_message, Parsed, refused, means, read_of}
use Rattle.message.proofs.LogLaws.{same_log_iff}
use Rattle.agreement.specs.Sets.{weigh}
use Rattle.agreement.specs.Filing.{Word, first, second, known}
use Rattle.bench.specs.Terms.{Seat, seat_of, weight_of}
use Rattle.bench.specs.Calendar.{view_beat, close_beat}
use Rattle.bench.specs.Calls.{Call, begin, receive, act, find}
use Rattle.bench.specs.History.{History, ActRecord, fresh, beat_now, refusal, word_for, made_by, step, after, after_from}
use Rattle.bench.proofs.CallLaws.{filed_heard, accepted_begin, receive_ok, taken_reply_lem, took_injective, accepted_receive, record_of}
use Rattle.bench.proofs.CallLaws.{receive_open}
use Rattle.bench.proofs.HistoryActs.{made_vote}
use Rattle.bench.proofs.HistoryLaws.{after_from_nil, after_from_cons, after_from_lem, after-append, after_ok}
use Rattle.demand.specs.Places.{Begins, MakesAfter, Sends, sends_made, sends_on, With}
use Rattle.demand.specs.Premises.{Volume, seat, Delivery, Numbers, Majority, counted, breaker}
use Rattle.demand.proofs.ListTests.{all, all_use, any, any_use, all_below, below_use, implies, implies_use}
use Rattle.demand.proofs.Beats.{UpTo, up_to_now, heard_grow, act_recorded, beat_is}
use Rattle.demand.proofs.HeardFrom.{taken, made, heard_from}
use Rattle.demand.proofs.ActPlaces.{act_place}
use Rattle.demand.proofs.Taking.{up_to_from}

-- ---- what a bench makes or passes on, as a list

pub record SentLog : Type 0 where
  pub beat : ℕ
  pub content : Content

abbrev is_new : Word → Bool
is_new first = true
is_new second = true
is_new known = false

abbrev only_if : Bool → SentLog → List SentLog
only_if true l = l ∷ []
only_if false l = []

-- of a message read, and of one made
unfoldable pub sent_read : History → Parsed → List SentLog
sent_read p (refused k) = []
sent_read p (means (log_message m)) = only_if (is_new (word_for p (log_message m))) (record { beat = beat_now p; content = m })
sent_read p (means (proposal_message m priority)) = []

unfoldable pub sent_made : History → Option Meaning → List SentLog
sent_made p none = []
sent_made p (some (log_message m)) = record { beat = beat_now p; content = m } ∷ []
sent_made p (some (proposal_message m priority)) = []

abbrev unless_refused : Option ℕ → List SentLog → List SentLog
unless_refused none l = l
unless_refused (some k) l = []

-- by one call, and by a list of calls
unfoldable pub sent_by : Seat → History → Call → List SentLog
sent_by S p (begin b) = []
sent_by S p (receive bytes) = unless_refused (refusal S p (receive bytes)) (sent_read p (read_of S.terms.n bytes))
sent_by S p (act block priority out) = unless_refused (refusal S p (act block priority out)) (sent_made p (made_by S p block priority))
sent_by S p (find e) = []

unfoldable pub sent_list : Seat → History → List Call → List SentLog
sent_list S p [] = []
sent_list S p (c ∷ cs) = sent_by S p c ++ sent_list S (step S p c) cs

sent_from_listed : (S : Seat) (pre : List Call) (c : Call) (post : List Call) (p : History) (l : SentLog)
    → Mem l (sent_by S (after_from S p pre) c) → Mem l (sent_list S p (pre ++ (c ∷ post)))
unfolding sent_list
sent_from_listed S [] c post p l i =
    Memᴰ.append_left (sent_list S (step S p c) post) (subst (λ (q : History). Mem l (sent_by S q c)) (after_from_nil S p) i)
sent_from_listed S (x ∷ xs) c post p l i =
    Memᴰ.append_right (sent_by S p x)
    (sent_from_listed S xs c post (step S p x) l (subst (λ (q : History). Mem l (sent_by S q c)) (after_from_cons S p x xs) i))

sent_by_listed : (S : Seat) (pre : List Call) (c : Call) (post : List Call) (l : SentLog)
    → Mem l (sent_by S (after S pre) c) → Mem l (sent_list S (fresh S) (pre ++ (c ∷ post)))
sent_by_listed S pre c post l i =
    sent_from_listed S pre c post (fresh S) l (subst (λ (q : History). Mem l (sent_by S q c)) (after_from_lem S pre) i)

new_is : (w : Word) → (w ≡ first) ⊎ (w ≡ second) → is_new w ≡ true
new_is w (inl e) = rw e
new_is w (inr e) = rw e

at_beat : (p : History) (b : ℕ) (m : Content) → p.last ≡ some b
    → ◌≡◌ {A = SentLog} (record { beat = b; content = m }) (record { beat = beat_now p; content = m })
at_beat p b m e = ap {B = SentLog} (λ (k : ℕ). record { beat = k; content = m }) (sym (beat_is p b e))

sends_listed : (S : Seat) (cs : List Call) (b : ℕ) (m : Content) → Sends S cs b m
    → Mem (record { beat = b; content = m }) (sent_list S (fresh S) cs)
unfolding sent_by sent_read sent_made
sends_listed S cs b m (sends_made pre t) =
    let a = t.acts in
    rw a.place.1
    (sent_by_listed S pre (act a.block a.priority a.out) a.place.0 (record { beat = b; content = m })
    (rw (a.ok, t.made) (Memᴰ.head (at_beat (after S pre) b m a.beat))))
sends_listed S cs b m (sends_on pre t f) =
    let p = after S pre in
    let q = taken_reply_lem S p t.bytes (log_message m) t.ok t.read in
    let g : (word_for p (log_message m) ≡ first) ⊎ (word_for p (log_message m) ≡ second) =
    elim f [ inl e ↦ inl (took_injective _ _ (sym q ∙ e)) | inr e ↦ inr (took_injective _ _ (sym q ∙ e)) ] in
    rw t.place.1
    (sent_by_listed S pre (receive t.bytes) t.place.0 (record { beat = b; content = m })
    (rw (t.ok, t.read) (rw (new_is (word_for p (log_message m)) g) (Memᴰ.head (at_beat p b m t.beat)))))

-- ---- delivery

unfoldable pub same_content : Content → Content → Bool
same_content m k = eqb m.sender k.sender && (eqb m.view k.view && same_log m.log k.log)

same_content_eq : (m k : Content) → same_content m k ≡ true → m ≡ k
unfolding same_content
same_content_eq m k e =
    let x = (and-eq-true_iff _ _).0 e in
    let y = (and-eq-true_iff _ _).0 x.1 in
    let s = eqb-true m.sender k.sender x.0 in
    let v = eqb-true m.view k.view y.0 in
    let l = (same_log_iff m.log k.log).0 y.1 in
    λ i. record { sender = s i; view = v i; log = l i }

among : (m : Content) (l : List Content) → any (same_content m) l ≡ true → Mem m l
among m l e = let z = any_use (same_content m) l e in Memᴰ.cast (same_content_eq m z.0 z.2) z.1

-- a LOG sent is heard by each act of a later beat within its window, but by its sender's own
abbrev arrived_by : ℕ → SentLog → ActRecord → Bool
arrived_by q l d =
    implies (ltb l.beat d.beat && (leb d.beat (close_beat l.content.view) && not (eqb l.content.sender q)))
    (any (same_content l.content) d.heard)

unfoldable pub deliveredb : Volume → Bool
deliveredb W =
    all_below W.terms.n (λ (p : ℕ).
    all_below W.terms.n (λ (q : ℕ).
    implies (W.keeper p && (W.keeper q && not (eqb p q)))
    (all (λ (l : SentLog). all (arrived_by q l) (after (seat W q) (W.calls q)).actions)
    (sent_list (seat W p) (fresh (seat W p)) (W.calls p)))))

not_eqb : (a b : ℕ) → (a ≡ b → ⊥) → not (eqb a b) ≡ true
not_eqb a b h = rw (ne_eqb a b h)

-- a LOG heard that is not a bench's own is with it
heard_with : (S : Seat) (pre : List Call) (m : Content) → Mem m (after S pre).heard → (m.sender ≡ S.own → ⊥) → With S pre m
heard_with S pre m i o = elim (heard_from S pre pre [] (sym (append-nil pre)) m i) [
  | taken start c t u ↦ record {
    before = start;
    bytes = t.bytes;
    place = t.place;
    read = t.read;
    gathering = (receive_ok S (after S start) t.bytes t.ok).gathering;
    in_window = receive_open S (after S start) t.bytes (log_message m) t.ok t.read;
  }
  | made start c t u ↦ absurd (o (made_vote S (after S start) t.acts.block t.acts.priority m t.made).sender)
]

pub delivered : (W : Volume) → deliveredb W ≡ true → Delivery W
unfolding deliveredb
delivered W e p q kp kq d b m s pre b' a l gap u o =
    let T = W.terms in
    let c = act a.block a.priority a.out in
    let now = after (seat_of T q) pre in
    let action = record_of (seat_of T q) now a.block a.priority in
    let whole : W.calls q ≡ (pre ++ (c ∷ [])) ++ a.place.0 = a.place.1 ∙ sym (append_assoc pre (c ∷ []) a.place.0) in
    let i : Mem action (after (seat_of T q) (W.calls q)).actions =
    subst (λ (cs : List Call). Mem action (after (seat_of T q) cs).actions) (sym whole)
    (act_recorded (seat_of T q) pre a.place.0 a.block a.priority a.out a.ok) in
    let both : (W.keeper p && (W.keeper q && not (eqb p q))) ≡ true = rw (kp.1, kq.1, not_eqb p q d) in
    let x = implies_use _ _ (below_use T.n _ (below_use T.n _ e p kp.0) q kq.0) both in
    let y = all_use _ _ (all_use _ _ x (record { beat = b; content = m }) (sends_listed (seat_of T p) (W.calls p) b m s)) action i in
    let owed : (ltb b (beat_now now) && (leb (beat_now now) (close_beat m.view) && not (eqb m.sender q))) ≡ true =
    rw (beat_is now b' a.beat, lt-ltb b b' l, le-leb b' (close_beat m.view) (omega arith), not_eqb m.sender q o) in
    heard_with (seat_of T q) pre m (among m now.heard (implies_use _ _ y owed)) o

-- ---- numbers

unfoldable pub made_it : Content → Option Meaning → Bool
made_it m none = false
made_it m (some (log_message k)) = same_content k m
made_it m (some (proposal_message k priority)) = false

made_it_eq : (m : Content) (o : Option Meaning) → made_it m o ≡ true → o ≡ some (log_message m)
unfolding made_it
made_it_eq m none e = absurd (false≢true e)
made_it_eq m (some (log_message k)) e = ap {B = Option Meaning} (λ (x : Content). some (log_message x)) (same_content_eq k m e)
made_it_eq m (some (proposal_message k priority)) e = absurd (false≢true e)

-- an act of the list made the LOG
unfoldable pub act_made : Seat → List Call → Content → Bool
act_made S cs m = any (λ (d : ActRecord). made_it m d.made) (after S cs).actions

act_made_lem : (S : Seat) (cs : List Call) (m : Content) → act_made S cs m ≡ true → (pre : List Call) × (b : ℕ) × MakesAfter S cs pre b m
unfolding act_made
act_made_lem S cs m e =
    let z = any_use (λ (d : ActRecord). made_it m d.made) (after S cs).actions e in
    let x = act_place S cs cs [] (sym (append-nil cs)) z.0 z.1 in
    (x.pre, z.0.beat, record { acts = x.acts; made = sym x.made ∙ made_it_eq m z.0.made z.2 })

unfoldable pub numberedb : Volume → Bool
numberedb W =
    all_below W.terms.n (λ (q : ℕ).
    implies (W.keeper q)
    (all (λ (m : Content). implies (W.keeper m.sender) (act_made (seat W m.sender) (W.calls m.sender) m))
    (after (seat W q) (W.calls q)).heard))

pub numbered : (W : Volume) → numberedb W ≡ true → Numbers W
unfolding numberedb
numbered W e p q kp kq pre b m t s =
    let T = W.terms in
    let c = receive t.bytes in
    let whole : W.calls q ≡ (pre ++ (c ∷ [])) ++ t.place.0 = t.place.1 ∙ sym (append_assoc pre (c ∷ []) t.place.0) in
    let new : Mem m (after (seat_of T q) (pre ++ (c ∷ []))).heard =
    subst (λ (g : History). Mem m g.heard)
    (sym (after_ok (seat_of T q) pre c t.ok
    ∙ accepted_receive (seat_of T q) (after (seat_of T q) pre) t.bytes (log_message m) t.read))
    (filed_heard (after (seat_of T q) pre) m) in
    let i : Mem m (after (seat_of T q) (W.calls q)).heard =
    subst (λ (cs : List Call). Mem m (after (seat_of T q) cs).heard) (sym whole)
    (heard_grow (seat_of T q) (pre ++ (c ∷ [])) t.place.0 m new) in
    let x = implies_use _ _ (below_use T.n _ e q kq.0) kq.1 in
    let y = implies_use _ _ (all_use _ _ x m i) (ap (λ (z : ℕ). W.keeper z) s ∙ kp.1) in
    act_made_lem (seat_of T p) (W.calls p) m (subst (λ (k : ℕ). act_made (seat_of T k) (W.calls k) m ≡ true) s y)

-- ---- the majority

-- no rule-keeper begins a beat of view `top` or of a later one, and in each view below it the rule-breakers are outnumbered
unfoldable pub majorityb : Volume → ℕ → Bool
majorityb W top =
    all_below W.terms.n (λ (i : ℕ). implies (W.keeper i) (ltb (beat_now (after (seat W i) (W.calls i))) (view_beat top)))
    && all_below top (λ (v : ℕ). ltb (weigh W.terms.n (weight_of W.terms) (breaker W))
    (weigh W.terms.n (weight_of W.terms) (counted W v)))

-- a beat begun is at most the last begun
begun_up_to : (S : Seat) (cs : List Call) (b : ℕ) → Begins S cs b → b ≤ beat_now (after S cs)
begun_up_to S cs b g =
    let q = after S (g.pre ++ (begin b ∷ [])) in
    let e : cs ≡ (g.pre ++ (begin b ∷ [])) ++ g.place.0 = g.place.1 ∙ sym (append_assoc g.pre (begin b ∷ []) g.place.0) in
    let f = after_ok S g.pre (begin b) g.ok ∙ accepted_begin S (after S g.pre) b in
    let u = up_to_from S cs q g.place.0 b (up_to_now q b (ap (λ (p : History). p.last) f)) in
    let w : UpTo (after S cs) b =
    subst (λ (p : History). UpTo p b) (sym (ap (after S) e ∙ after-append S (g.pre ++ (begin b ∷ [])) g.place.0)) u in
    let l = w.le in
    let k = beat_is (after S cs) w.top w.last in
    omega arith

pub majority : (W : Volume) (top : ℕ) → majorityb W top ≡ true → Majority W
unfolding majorityb
majority W top e v i k b g l m =
    let x = (and-eq-true_iff _ _).0 e in
    let t = ltb-true (beat_now (after (seat W i) (W.calls i))) (view_beat top)
    (implies_use _ _ (below_use W.terms.n _ x.0 i k.0) k.1) in
    let u = begun_up_to (seat W i) (W.calls i) b g in
    let c = ltb-true (weigh W.terms.n (weight_of W.terms) (breaker W)) (weigh W.terms.n (weight_of W.terms) (counted W v))
    (below_use top _ x.1 v (omega arith)) in
    omega arith
