-- The acts of a list of calls by their beats: each record of an act has its place in the list, and what a later act finds of it. Assumes
-- nothing.
use Prim.Native.Nat.{ℕ, ◌<◌}
use native.Mathlib.Omega.{arith}
use mathlib.Core.Path.{◌≡◌, refl, sym, ap, subst, ◌∙◌}
use mathlib.Core.Logic.{inl, inr}
use mathlib.Core.List.Memᴰ
use mathlib.Core.List.{List, [], ◌∷◌, ◌++◌, append-nil, append_assoc, Memᴰ as Mem}
use mathlib.Core.Option.{Option, some, none, some-injective}
use mathlib.Core.Bool.{true}
use Rattle.message.specs.Message.{Content}
use Rattle.bench.specs.Terms.{Seat}
use Rattle.bench.specs.Calls.{Call, begin, receive, act, find}
use Rattle.bench.specs.History.{History, ActRecord, refusal, accepted, made_by, decided_by, after, awake, heard_at}
use Rattle.bench.proofs.CallLaws.{act_ok, accepted_begin, accepted_find, record_of, accepted_actions_act, accepted_actions_receive}
use Rattle.bench.proofs.HistoryLaws.{awake_acted, acted_at_mem, mem_acted_at, heard_at_mem, mem_heard_at}
use Rattle.demand.specs.Places.{At, ActsAfter}
use Rattle.demand.proofs.Starts.{along}
use Rattle.demand.proofs.Beats.{has_beat, beat_is, act_recorded, Order, same, before, behind, ordered, later, once}

-- ---- the place of an act on record

pub record ActPlace (S : Seat) (cs : List Call) (d : ActRecord) : Type 0 where
  pub pre : List Call
  pub acts : ActsAfter S cs pre d.beat
  pub heard : d.heard ≡ (after S pre).heard
  pub made : d.made ≡ made_by S (after S pre) acts.block acts.priority
  pub decided : d.decided ≡ decided_by S (after S pre)

module _ (S : Seat) (cs : List Call) where
  act_place_step : (pre : List Call) (c : Call) → At cs pre c → refusal S (after S pre) c ≡ none
      → ((d : ActRecord) → Mem d (after S pre).actions → ActPlace S cs d)
      → (d : ActRecord) → Mem d (accepted S (after S pre) c).actions → ActPlace S cs d
  act_place_step pre (begin b) at ok ih d i = ih d (subst (λ (q : History). Mem d q.actions) (accepted_begin S (after S pre) b) i)
  act_place_step pre (receive bytes) at ok ih d i =
      ih d (subst (λ (l : List ActRecord). Mem d l) (accepted_actions_receive S (after S pre) bytes ok) i)
  act_place_step pre (find e) at ok ih d i = ih d (subst (λ (q : History). Mem d q.actions) (accepted_find S (after S pre) e) i)
  act_place_step pre (act x r o) at ok ih d i =
      elim (Memᴰ.cases_cons (subst (λ (l : List ActRecord). Mem d l) (accepted_actions_act S p x r o) i)) [
        | inl e ↦ subst (ActPlace S cs) (sym e) here
        | inr j ↦ ih d j
      ]
    where
      p : History
      p = after S pre

      here : ActPlace S cs (record_of S p x r)
      here =
          let b = has_beat S pre (act_ok S p x r o ok).1 in
          record {
            pre = pre;
            acts =
                record {
                  block = x;
                  priority = r;
                  out = o;
                  place = at;
                  ok = ok;
                  beat = b.1 ∙ ap {B = Option ℕ} some (sym (beat_is p b.0 b.1));
                };
            heard = refl;
            made = refl;
            decided = refl;
          }

  pub act_place : (pre post : List Call) → cs ≡ pre ++ post → (d : ActRecord) → Mem d (after S pre).actions → ActPlace S cs d
  act_place =
      along S cs (λ (p : History). (d : ActRecord) → Mem d p.actions → ActPlace S cs d)
      (λ d i. absurd (Memᴰ.not-nil i)) act_place_step

-- ---- the acts of the list by beat

module _ (S : Seat) (cs : List Call) where
  -- what was heard at the act of beat b, which is the one act of that beat
  pub heard_at_place : (pre post : List Call) → cs ≡ pre ++ post → (b : ℕ) (l : List Content) → heard_at (after S pre).actions b ≡ some l
      → (start : List Call) × ActsAfter S cs start b × (l ≡ (after S start).heard)
  heard_at_place pre post e b l q =
      let x = heard_at_mem (after S pre).actions b l q in
      let y = act_place S cs pre post e x.0 x.1 in
      (y.pre, subst (ActsAfter S cs y.pre) x.2 y.acts, sym x.3 ∙ y.heard)

  pub place_heard_at : (pre post : List Call) → cs ≡ pre ++ post → (start : List Call) (b : ℕ) (a : ActsAfter S cs start b)
      → Mem (record_of S (after S start) a.block a.priority) (after S pre).actions
      → heard_at (after S pre).actions b ≡ some (after S start).heard
  place_heard_at pre post e start b a i =
      let x = mem_heard_at (after S pre).actions (record_of S (after S start) a.block a.priority) b i
      (beat_is (after S start) b a.beat) in
      let y = heard_at_place pre post e b x.0 x.1 in
      let s : start ≡ y.0 = once S cs start y.0 b a y.1 in
      x.1 ∙ ap {B = Option (List Content)} some (y.2 ∙ ap (λ (z : List Call). (after S z).heard) (sym s))

  -- an act is on record at the list's end, and at every later act
  recorded : (start : List Call) (b : ℕ) (a : ActsAfter S cs start b)
      → Mem (record_of S (after S start) a.block a.priority) (after S cs).actions
  recorded start b a =
      let c = act a.block a.priority a.out in
      let e : cs ≡ (start ++ (c ∷ [])) ++ a.place.0 = a.place.1 ∙ sym (append_assoc start (c ∷ []) a.place.0) in
      rw e (act_recorded S start a.place.0 a.block a.priority a.out a.ok)

  pub recorded_before : (start : List Call) (b : ℕ) (a : ActsAfter S cs start b) (pre : List Call) (b' : ℕ) → ActsAfter S cs pre b' → b < b'
      → Mem (record_of S (after S start) a.block a.priority) (after S pre).actions
  recorded_before start b a pre b' a' l = go (ordered cs start _ pre _ a.place a'.place)
    where
      go : Order start (act a.block a.priority a.out) pre (act a'.block a'.priority a'.out)
          → Mem (record_of S (after S start) a.block a.priority) (after S pre).actions
      go (same e f) =
          let k : b ≡ b' = some-injective _ _ (sym a.beat ∙ ap (λ (x : List Call). (after S x).last) e ∙ a'.beat) in
          absurd (omega arith)
      go (before mid e) = rw e (act_recorded S start mid a.block a.priority a.out a.ok)
      go (behind mid e) =
          let g = (act_ok S (after S start) a.block a.priority a.out a.ok).1 in
          let k : b' < b = later S cs pre b' a' mid b (rw e at g) (rw e at a.beat) in
          absurd (omega arith)

  -- awake at a beat: the test, and the act
  pub awake_acts : (b : ℕ) → awake S cs b ≡ true → (pre : List Call) × ActsAfter S cs pre b
  awake_acts b e =
      let x = acted_at_mem (after S cs).actions b (sym (awake_acted S cs b) ∙ e) in
      let y = act_place S cs cs [] (sym (append-nil cs)) x.0 x.1 in
      (y.pre, subst (ActsAfter S cs y.pre) x.2 y.acts)

  pub acts_awake : (pre : List Call) (b : ℕ) → ActsAfter S cs pre b → awake S cs b ≡ true
  acts_awake pre b a =
      awake_acted S cs b
      ∙ mem_acted_at (after S cs).actions (record_of S (after S pre) a.block a.priority) b (recorded pre b a)
      (beat_is (after S pre) b a.beat)

  -- what the act of a beat had heard, by the whole list
  pub act_heard : (pre : List Call) (b : ℕ) → ActsAfter S cs pre b → heard_at (after S cs).actions b ≡ some (after S pre).heard
  act_heard pre b a = place_heard_at cs [] (sym (append-nil cs)) pre b a (recorded pre b a)
