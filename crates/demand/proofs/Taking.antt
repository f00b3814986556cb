-- What one bench has taken or made by the act of a beat: the same as what that act has heard, taken within the window, and with what was
-- handed to it. Also: the beat of an act was begun. Assumes nothing.
use Prim.Native.Nat.{ℕ, ◌≤◌, ◌<◌}
use native.Mathlib.Omega.{arith}
use mathlib.Core.Path.{◌≡◌, sym, ap, subst, ◌∙◌}
use mathlib.Core.List.{List, ◌∷◌, ◌++◌, append_assoc, Memᴰ as Mem}
use mathlib.Core.Option.{some, none, some-injective}
use mathlib.Core.Bool.{true, false≢true, and-eq-true_iff}
use borrow.Author.Tests.{leb-true}
use Rattle.message.specs.Message.{Content, log_message}
use Rattle.bench.specs.Terms.{Seat}
use Rattle.bench.specs.Calendar.{last_beat, input_beat, close_beat}
use Rattle.bench.specs.Calls.{Call, begin, receive, act, find}
use Rattle.bench.specs.History.{History, beat_now, refusal, accepted, after, after_from}
use Rattle.bench.proofs.CallLaws.{accepted_begin, begin_ok, act_ok, receive_ok, receive_open, receive_refusal, accepted_find}
use Rattle.bench.proofs.HistoryLaws.{after_from_keeps, after-append}
use Rattle.demand.specs.Places.{At, Begins, ActsAfter, MakesAfter, TakesAfter, With}
use Rattle.demand.proofs.Starts.{along}
use Rattle.demand.proofs.Beats.{UpTo, up_to_now, up_to_le, up_to_step, receive_last, act_gathering, beat_is, has_beat}
use Rattle.demand.proofs.HeardFrom.{taken, made, heard_from, taken_heard, made_heard_later}

-- taken in a gathering of a beat up to b, or made in an act of an earlier beat
pub data Took (S : Seat) (cs : List Call) (b : ℕ) (h : Content) : Type 0 where
  took_taken : (pre : List Call) (c : ℕ) → TakesAfter S cs pre c h → c ≤ b → Took S cs b h
  took_made : (pre : List Call) (c : ℕ) → MakesAfter S cs pre c h → c < b → Took S cs b h

module _ (S : Seat) (cs : List Call) where
  pub took_mem : (pre : List Call) (b : ℕ) → ActsAfter S cs pre b → (h : Content) → Took S cs b h → Mem h (after S pre).heard
  took_mem pre b a h (took_taken start c t l) = taken_heard S cs start c h t pre b a l
  took_mem pre b a h (took_made start c t l) = made_heard_later S cs start c h t pre b a l

  pub mem_took : (pre : List Call) (b : ℕ) → ActsAfter S cs pre b → (h : Content) → Mem h (after S pre).heard → Took S cs b h
  mem_took pre b a h i = elim (heard_from S cs pre _ a.place.1 h i) [
    | taken start c t u ↦ took_taken start c t (up_to_le (after S pre) c b u a.beat)
    | made start c t u ↦ let g = (act_ok S (after S pre) a.block a.priority a.out a.ok).1 in
        let l = up_to_le (after S pre) _ b (u.1 g) a.beat in
        took_made start c t (omega arith)
  ]

  -- a LOG is taken within its window
  pub taken_window : (pre : List Call) (b : ℕ) (h : Content) → TakesAfter S cs pre b h
      → (input_beat h.view ≤ b) × (b ≤ close_beat h.view)
  taken_window pre b h t =
      let p = after S pre in
      let x = (and-eq-true_iff _ _).0 (receive_open S p t.bytes (log_message h) t.ok t.read) in
      let k = beat_is p b t.beat in
      let l = leb-true (input_beat h.view) (beat_now p) x.0 in
      let u = leb-true (beat_now p) (close_beat h.view) x.1 in
      (omega arith, omega arith)

  -- ---- the last begun beat does not fall, and was begun

  pub up_to_from : (p : History) (ys : List Call) (b : ℕ) → UpTo p b → UpTo (after_from S p ys) b
  up_to_from p ys b u = after_from_keeps S (λ (q : History). UpTo q b) (λ q c ok w. up_to_step S q b c ok w) p ys u

  last_grows : (xs ys : List Call) (b c : ℕ) → (after S xs).last ≡ some b → (after S (xs ++ ys)).last ≡ some c → b ≤ c
  last_grows xs ys b c e f =
      up_to_le (after_from S (after S xs) ys) b c (up_to_from (after S xs) ys b (up_to_now (after S xs) b e))
      (ap (λ (q : History). q.last) (sym (after-append S xs ys)) ∙ f)

  -- what is with a bench before an act is taken by then
  pub with_took : (pre : List Call) (f : ℕ) → ActsAfter S cs pre f → (h : Content) → With S pre h → (c : ℕ) → f ≤ c → Took S cs c h
  with_took pre f a h x c l =
      let b = has_beat S x.before x.gathering in
      let rest = x.place.0 in
      let end = act a.block a.priority a.out ∷ a.place.0 in
      let e : cs ≡ x.before ++ (receive x.bytes ∷ (rest ++ end)) =
      a.place.1 ∙ ap (λ (l : List Call). l ++ end) x.place.1 ∙ append_assoc x.before (receive x.bytes ∷ rest) end in
      let k = last_grows x.before (receive x.bytes ∷ rest) b.0 f b.1
      (ap (λ (l : List Call). (after S l).last) (sym x.place.1) ∙ a.beat) in
      took_taken x.before b.0
      (record {
        bytes = x.bytes;
        place = (rest ++ end, e);
        ok = receive_refusal S (after S x.before) x.bytes (log_message h) x.read x.gathering x.in_window;
        beat = b.1;
        read = x.read;
      })
      (omega arith)

  -- the beat of a gathering was begun in the list, whatever was begun before it
  abbrev LastBegun : History → Type 0
  LastBegun p = p.gathering ≡ true → (b : ℕ) → p.last ≡ some b → Begins S cs b × (b ≤ last_beat)

  last_begun_step : (pre : List Call) (c : Call) → At cs pre c → refusal S (after S pre) c ≡ none → LastBegun (after S pre)
      → LastBegun (accepted S (after S pre) c)
  last_begun_step pre (begin b) at ok h g c e =
      let q : b ≡ c = some-injective _ _ (sym (ap (λ (x : History). x.last) (accepted_begin S (after S pre) b)) ∙ e) in
      let l = (begin_ok S (after S pre) b ok).0 in
      (subst (Begins S cs) q (record { pre = pre; place = at; ok = ok }), omega arith)
  last_begun_step pre (receive bytes) at ok h g c e =
      h (receive_ok S (after S pre) bytes ok).gathering c (sym (receive_last S (after S pre) bytes ok) ∙ e)
  last_begun_step pre (act x r o) at ok h g c e = absurd (false≢true (sym (act_gathering S (after S pre) x r o) ∙ g))
  last_begun_step pre (find n) at ok h g b e = subst LastBegun (sym (accepted_find S (after S pre) n)) h g b e

  pub act_begun : (pre : List Call) (b : ℕ) → ActsAfter S cs pre b → Begins S cs b × (b ≤ last_beat)
  act_begun pre b a =
      along S cs LastBegun (λ g. absurd (false≢true g)) last_begun_step pre _ a.place.1
      (act_ok S (after S pre) a.block a.priority a.out a.ok).1 b a.beat
