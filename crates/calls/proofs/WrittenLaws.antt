-- A made message: it can be written, is filed from the outgoing buffer as its bytes are, and read back from there as it was meant. Assumes
-- nothing.
use Prim.Native.Nat.{ℕ, ◌+◌, ◌^◌, ◌≤◌, ◌<◌}
use native.Mathlib.Omega.{arith}
use mathlib.Core.Bool.{Bool, true}
use mathlib.Core.List.{List, [], ◌∷◌, ◌++◌}
use mathlib.Core.Option.{some}
use mathlib.Core.Path.{◌≡◌, refl, sym, ap, subst, ◌∙◌}
use Rattle.std.specs.Prelude.{Result, Ok}
use mir.Syntax.{w16, w64}
use mir.Val.{Fits}
use borrow.Author.Tests.{ltb-false}
use lib.ListN.{length, get_or, length-append}
use Rattle.message.specs.Limits.{most_blocks}
use Rattle.message.specs.Numbers.{AllBelow, put}
use Rattle.message.specs.Logs.{Block, Log, names_of, counts_of}
use Rattle.message.specs.Message.{Content, Meaning, log_message, proposal_message, said, log_of, bytes_of}
use Rattle.message.specs.Store.{log_at, log_from, proposal_from, Writes, room_for, write_log_of, write_proposal_of}
use Rattle.message.proofs.PartLaws.{part_below, one_below, append_below}
use Rattle.message.proofs.LogLaws.{names_append, counts_append, names_one, counts_one}
use Rattle.message.proofs.ListedLaws.{length_at_lem, names_at, counts_at}
use Rattle.message.proofs.WrittenFields.{length_message}
use Rattle.message.proofs.Inside.{room_yes, written_inside, count_made, same_count, same_holds, same_log_lem, content_made_lem, priority_made}
use Rattle.agreement.proofs.BytesLaws.{same_filed, same_proposal_filed}
use Rattle.agreement.specs.declared.Answer.{Answer}
use Rattle.bench.specs.Layout.{logs_place, proposals_place, most_bytes}
use Rattle.bench.specs.Calls.{acted, Core}
use Rattle.bench.specs.Record.{agreement_of, proposals_of, Bench, bench_with}
use Rattle.bench.specs.ByRecord.{Outcome, log_outcome, proposal_outcome, file_log, file_proposal, file_message, taken}
use Rattle.bench.specs.Answers.{content_made, made_reply, core_with}
use Rattle.calls.specs.Steps.{Making, made_step, TakeGives, MakeGives}
use Rattle.bench.specs.declared.Head.{Head}
use Rattle.bench.specs.declared.Rows.{Rows}
use Rattle.bench.specs.declared.refusal.Refusal.{Refusal}
use Rattle.bench.specs.declared.Made.{Made}
use Rattle.bench.specs.declared.Made.TheVariants as makings
use Rattle.bench.proofs.Replies.{made_log, made_proposal}
use Rattle.bench.proofs.ActLaws.{file_log_lem, file_proposal_lem}
use Rattle.bench.proofs.TestedLaws.{before_within}

-- it can be written, and the buffer has room for it
record Makeable (out : List ℕ) (m : Meaning) : Type 0 where
  pub few : length (log_of m) ≤ most_blocks
  pub room : length (bytes_of m) ≤ length out
  pub view : (said m).view < 256 ^ 4
  pub names : AllBelow (2 ^ 64) (names_of (log_of m))
  pub counts : AllBelow (2 ^ 16) (counts_of (log_of m))

-- ---- what making one asks is enough for it

module _ {names counts out : List ℕ} {v a k : ℕ} (p : Making names counts out v a k) where
  long : most_bytes ≤ length out
  long = ltb-false (length out) most_bytes p.room

  -- a log of n blocks has room
  made_room : (n : ℕ) → n ≤ most_blocks → room_for out names counts a k n ≡ true
  made_room n h = let o = long in room_yes out names counts a k n h (before_within names counts p.lists a k p.before) (omega arith)

  makeable : (m : Meaning) → length (log_of m) ≤ most_blocks → (said m).view ≡ v
      → AllBelow (2 ^ 64) (names_of (log_of m)) → AllBelow (2 ^ 16) (counts_of (log_of m)) → Makeable out m
  makeable m h e n c =
      let l = length_message m in
      let o = long in
      let x = p.early in
      record { few = h; room = omega arith; view = omega arith; names = n; counts = c }

-- ---- filed from the buffer

module _ (out : List ℕ) (m : Meaning) (w : Makeable out m) (s : Core) (v i : ℕ) where
  log_filed : file_log s (put out 0 (bytes_of m)) v i ≡ file_log s (bytes_of m) v i
  log_filed =
      ap (log_outcome s v)
      (same_filed s.names s.counts (logs_place v) i (put out 0 (bytes_of m)) (bytes_of m) (same_count out m w.room)
      (same_holds out m w.room w.few) (same_log_lem out m w.room w.names w.counts) (agreement_of s.bench v))

  proposal_filed : (priority : ℕ) → file_proposal s (put out 0 (bytes_of m)) v i priority ≡ file_proposal s (bytes_of m) v i priority
  proposal_filed priority =
      ap (proposal_outcome s)
      (same_proposal_filed s.names s.counts proposals_place i (put out 0 (bytes_of m)) (bytes_of m) (same_count out m w.room)
      (same_holds out m w.room w.few) (same_log_lem out m w.room w.names w.counts) (proposals_of s.bench v) priority)

-- by its kind
filed_same : (out : List ℕ) (m : Meaning) → Makeable out m → (s : Core)
    → file_message s (put out 0 (bytes_of m)) m ≡ file_message s (bytes_of m) m
filed_same out (log_message m) w s = rw (file_log_lem s _ m, file_log_lem s _ m) (log_filed out (log_message m) w s m.view m.sender)
filed_same out (proposal_message m priority) w s =
    rw (file_proposal_lem s _ m, file_proposal_lem s _ m) (proposal_filed out (proposal_message m priority) w s m.view m.sender priority)

-- ---- the answer, as it is read from the buffer

-- the block count that is answered is the one that the buffer says
content_read : (out : List ℕ) (m : Meaning) (k : ℕ) → Makeable out m → length (log_of m) ≡ k → content_made (put out 0 (bytes_of m)) k ≡ said m
content_read out m k w e =
    ap (content_made (put out 0 (bytes_of m))) (sym e ∙ sym (count_made out m w.room))
    ∙ content_made_lem out m w.room w.view w.names w.counts

log_reply : (out : List ℕ) (m : Content) (k : ℕ) → Makeable out (log_message m) → length m.log ≡ k
    → made_reply (put out 0 (bytes_of (log_message m))) (Ok (makings.Log k)) ≡ acted (some (log_message m))
log_reply out m k w e =
    made_log (put out 0 (bytes_of (log_message m))) k
    ∙ ap (λ (c : Content). acted (some (log_message c))) (content_read out (log_message m) k w e)

proposal_reply : (out : List ℕ) (m : Content) (priority k : ℕ) → Makeable out (proposal_message m priority) → priority < 256 ^ 8
    → length m.log ≡ k
    → made_reply (put out 0 (bytes_of (proposal_message m priority))) (Ok (makings.Proposal k)) ≡ acted (some (proposal_message m priority))
proposal_reply out m priority k w h e =
    let c = content_read out (proposal_message m priority) k w e in
    let p = priority_made out m priority w.room h in
    made_proposal (put out 0 (bytes_of (proposal_message m priority))) k ∙ (λ i. acted (some (proposal_message (c i) (p i))))

-- ---- written, filed from the buffer and answered

module _ (s : Core) (out : List ℕ) (m : Meaning) (w : Makeable out m) (a : Made) (o : List ℕ) (y : Result Answer Refusal) (c : Bench) (ns cs : List ℕ) where
  made_acts : o ≡ put out 0 (bytes_of m) → made_reply (put out 0 (bytes_of m)) (Ok a) ≡ acted (some m)
      → TakeGives (taken (file_message s o m)) y c ns cs
      → MakeGives (made_step s out m) a c ns cs o
  made_acts e q r =
      let x : file_message s o m ≡ file_message s (bytes_of m) m = ap (λ (l : List ℕ). file_message s l m) e ∙ filed_same out m w s in
      record {
        answered = ap (λ (l : List ℕ). made_reply l (Ok a)) e ∙ q;
        bench = r.bench ∙ ap (λ (z : Outcome). z.held.bench) x;
        name_list = r.name_list ∙ ap (λ (z : Outcome). z.held.names) x;
        count_list = r.count_list ∙ ap (λ (z : Outcome). z.held.counts) x;
        buffer = e;
      }

-- ---- the LOG and the PROPOSAL of the blocks at a place

module _ (h : Head) (rows : Rows) (names counts out : List ℕ) (v a k : ℕ) (hn : (i : ℕ) → Fits w64 (get_or names i 0))
    (hc : (i : ℕ) → Fits w16 (get_or counts i 0))
    (r : Bool) (o : List ℕ) (y : Result Answer Refusal) (c : Bench) (ns cs : List ℕ) where
  abbrev s : Core
  s = core_with (bench_with h rows) names counts

  abbrev L : Log
  L = log_at names counts a k

  names_fit : AllBelow (2 ^ 64) (names_of L)
  names_fit = subst (AllBelow (2 ^ 64)) (sym (names_at names counts a k)) (part_below (2 ^ 64) names a k (λ i. (hn i).fits))

  counts_fit : AllBelow (2 ^ 16) (counts_of L)
  counts_fit = subst (AllBelow (2 ^ 16)) (sym (counts_at names counts a k)) (part_below (2 ^ 16) counts a k (λ i. (hc i).fits))

  pub log_acts : Making names counts out v a k → Writes (write_log_of out names counts a k h.own v) r o
      → TakeGives (taken (file_log s o v h.own)) y c ns cs
      → MakeGives (made_step s out (log_from names counts a k h.own v)) (makings.Log k) c ns cs o
  log_acts p x f =
      let m : Content = record { sender = h.own; view = v; log = L } in
      let l = length_at_lem names counts a k in
      let few = p.before.1 in
      let w = makeable p (log_message m) (omega arith) refl names_fit counts_fit in
      let z = (written_inside (room_for out names counts a k k) out (log_message m) r o (made_room p k few) x).1 in
      made_acts s out (log_message m) w (makings.Log k) o y c ns cs z (log_reply out m k w l) (rw file_log_lem f)

  pub proposal_acts : (name count priority : ℕ) → Fits w64 name → Fits w16 count → Fits w64 priority
      → (Making names counts out v a k) × (k < most_blocks)
      → Writes (write_proposal_of out names counts a k (record { name = name; count = count }) h.own v priority) r o
      → TakeGives (taken (file_proposal s o v h.own priority)) y c ns cs
      → MakeGives (made_step s out (proposal_from names counts a k (record { name = name; count = count }) h.own v priority))
      (makings.Proposal (k + 1)) c ns cs o
  proposal_acts name count priority tn tc tp (p, few) x f =
      let block : Block = record { name = name; count = count } in
      let m : Content = record { sender = h.own; view = v; log = L ++ (block ∷ []) } in
      let l : length (L ++ (block ∷ [])) ≡ k + 1 = length-append L (block ∷ []) ∙ ap (λ (j : ℕ). j + 1) (length_at_lem names counts a k) in
      let w = makeable p (proposal_message m priority) (omega arith) refl
      (subst (AllBelow (2 ^ 64)) (sym (names_append L (block ∷ [])))
      (append_below (2 ^ 64) (names_of L) (names_of (block ∷ [])) names_fit
      (subst (AllBelow (2 ^ 64)) (sym (names_one block)) (one_below (2 ^ 64) name tn.fits))))
      (subst (AllBelow (2 ^ 16)) (sym (counts_append L (block ∷ [])))
      (append_below (2 ^ 16) (counts_of L) (counts_of (block ∷ [])) counts_fit
      (subst (AllBelow (2 ^ 16)) (sym (counts_one block)) (one_below (2 ^ 16) count tc.fits)))) in
      let z = (written_inside (room_for out names counts a k (k + 1)) out (proposal_message m priority) r o
      (made_room p (k + 1) (omega arith)) x).1 in
      made_acts s out (proposal_message m priority) w (makings.Proposal (k + 1)) o y c ns cs z
      (proposal_reply out m priority (k + 1) w tp.fits l) (rw file_proposal_lem f)
