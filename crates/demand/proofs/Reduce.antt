-- Demand 3 of a machine, from what each bench does alone; and that from one call at a time. Assumes nothing.
use Prim.Native.Nat.{ℕ}
use mathlib.Core.Path.{◌≡◌, sym, ap, subst, ◌∙◌}
use mathlib.Core.List.{List, [], ◌∷◌, ◌++◌}
use mathlib.Core.Option.{some}
use mathlib.Core.Bool.{false}
use lib.ListN.{length, take}
use Rattle.message.specs.Logs.{Log}
use Rattle.message.proofs.LogLaws.{no_conflict_iff}
use Rattle.bench.specs.Terms.{Terms, Seat, seat_of}
use Rattle.bench.specs.Calls.{Call, begin, State, Typed, AllTyped, find}
use Rattle.bench.specs.Totals.{totals_of}
use Rattle.bench.specs.Acts.{Stand}
use Rattle.bench.specs.History.{History, fresh, refusal, step, answer, answers_from, after_from, after, stand_in, stand}
use Rattle.bench.specs.ByRecord.{standing}
use Rattle.bench.proofs.HistoryLaws.{after_from_nil, after_from_cons, after_from_lem, answers_from_nil, answers_from_cons, answers_to_from, stand_in_lem}
use Rattle.demand.specs.Places.{Decides, LongestDecided}
use Rattle.demand.specs.Premises.{Volume, seat, Keeps, Delivery, Numbers, Majority}
use Rattle.demand.specs.Demand.{Way, Machine, call, Event, calls_in, runs, answers, OpenedAs, OpensRightly, Faithful, Claim, Demand3}
use Rattle.demand.proofs.MachineLaws.{calls_in-append}
use Rattle.demand.proofs.Starts.{typed_start}
use Rattle.demand.proofs.FourBeats.{no_conflict}
use Rattle.demand.proofs.Decided.{decides_start, stands_longest}

-- ---- agreement follows from what each bench does alone

agreement : (M : Machine) → Faithful M → (W : Volume) (from : ℕ → State) (events : ℕ → List Event)
    → ((i : ℕ) → Keeps W i → OpenedAs M W.terms i (from i))
    → ((i : ℕ) → Keeps W i → calls_in (events i) ≡ W.calls i)
    → ((i : ℕ) → Keeps W i → AllTyped (W.calls i))
    → Delivery W → Numbers W → Majority W → Claim M W from events
agreement M F W from events given made typed D N J = record {
  no_conflict = λ i j ki kj L K d e. (no_conflict_iff L K).1 (no_conflict W D N J i j ki kj L K d e);
  stands = λ i k pre post e.
      let s = F.stood W.terms i (from i) pre (given i k)
      (typed_start (calls_in pre) (calls_in post) (subst AllTyped (split i k pre post e) (typed i k))) in
      let x = inside i k pre post e in
      (subst (λ (st : Stand). LongestDecided (seat W i) (calls_in pre) st.log) (sym s) x.0, ap (λ (st : Stand). st.parted) s ∙ x.1);
}
  where
    split : (i : ℕ) → Keeps W i → (pre post : List Event) → events i ≡ pre ++ post → W.calls i ≡ calls_in pre ++ calls_in post
    split i k pre post e = sym (made i k) ∙ ap calls_in e ∙ calls_in-append pre post

    -- decided in a start of the list, so in the list
    whole : (i : ℕ) (k : Keeps W i) (pre post : List Event) (e : events i ≡ pre ++ post) (L : Log) → Decides (seat W i) (calls_in pre) L
        → Decides (seat W i) (W.calls i) L
    whole i k pre post e L d =
        subst (λ (l : List Call). Decides (seat W i) l L) (sym (split i k pre post e))
        (decides_start (seat W i) (calls_in pre) (calls_in post) L d)

    inside : (i : ℕ) → Keeps W i → (pre post : List Event) → events i ≡ pre ++ post
        → LongestDecided (seat W i) (calls_in pre) (stand (seat W i) (calls_in pre)).log × ((stand (seat W i) (calls_in pre)).parted ≡ false)
    inside i k pre post e =
        stands_longest W.terms i (calls_in pre)
        (λ L K d f. no_conflict W D N J i i k k L K (whole i k pre post e L d) (whole i k pre post e K f))

pub demand3 : (M : Machine) → Faithful M → Demand3 M
demand3 M F = record { alone = F; agrees = agreement M F }

-- ---- from one call at a time

-- A relation between what is held and the history, which Open brings about and every call keeps, answers included.
pub record Simulation (M : Machine) : Type 1 where
  pub rightly : OpensRightly M
  pub Rel : Seat → State → History → Type 0
  pub opens : (T : Terms) (own : ℕ) (x : State) → OpenedAs M T own x → Rel (seat_of T own) x (fresh (seat_of T own))
  pub same_answer : (S : Seat) (w : Way) (x : State) (p : History) (c : Call) → Rel S x p → Typed c → (call M w x c).answer ≡ answer S p c
  pub keeps : (S : Seat) (w : Way) (x : State) (p : History) (c : Call) → Rel S x p → Typed c → Rel S (call M w x c).held (step S p c)
  pub same_standing : (S : Seat) (x : State) (p : History) → Rel S x p → standing x ≡ stand_in S.stood p.actions
  pub refusals : (S : Seat) (w : Way) (x : State) (p : History) (c : Call) (k : ℕ) → Rel S x p → Typed c → refusal S p c ≡ some k
      → (call M w x c).held ≡ x
  pub same_totals : (S : Seat) (x : State) (p : History) → Rel S x p
      → take (length (stand_in S.stood p.actions).log) x.lent.totals ≡ totals_of (stand_in S.stood p.actions).log
  pub finds : (S : Seat) (w : Way) (x : State) (p : History) (e : ℕ) → Rel S x p → Typed (find e) → (call M w x (find e)).held ≡ x
  pub begins : (S : Seat) (w : Way) (x : State) (p : History) (b : ℕ) → Rel S x p → Typed (begin b)
      → (call M w x (begin b)).held.lent ≡ x.lent

module _ (M : Machine) (I : Simulation M) (S : Seat) where
  sim_answers : (es : List Event) (x : State) (p : History) → I.Rel S x p → AllTyped (calls_in es)
      → answers M x es ≡ answers_from S p (calls_in es)
  unfolding answers calls_in
  sim_answers [] x p r t = sym (answers_from_nil S p)
  sim_answers (e ∷ es) x p r t =
      let a = I.same_answer S e.way x p e.what r t.0 in
      let b = sim_answers es (call M e.way x e.what).held (step S p e.what) (I.keeps S e.way x p e.what r t.0) t.1 in
      (λ i. a i ∷ b i) ∙ sym (answers_from_cons S p e.what (calls_in es))

  sim_runs : (es : List Event) (x : State) (p : History) → I.Rel S x p → AllTyped (calls_in es)
      → I.Rel S (runs M x es) (after_from S p (calls_in es))
  unfolding runs calls_in
  sim_runs [] x p r t = subst (I.Rel S x) (sym (after_from_nil S p)) r
  sim_runs (e ∷ es) x p r t =
      subst (I.Rel S (runs M x (e ∷ es))) (sym (after_from_cons S p e.what (calls_in es)))
      (sim_runs es (call M e.way x e.what).held (step S p e.what) (I.keeps S e.way x p e.what r t.0) t.1)

  -- the relation holds all along
  sim_all : (es : List Event) (x : State) → I.Rel S x (fresh S) → AllTyped (calls_in es) → I.Rel S (runs M x es) (after S (calls_in es))
  sim_all es x o t = subst (I.Rel S (runs M x es)) (sym (after_from_lem S (calls_in es))) (sim_runs es x (fresh S) o t)

pub faithful : (M : Machine) → Simulation M → Faithful M
faithful M I = record {
  opens = I.rightly;
  answered = λ T own x es o t.
      sim_answers M I (seat_of T own) es x (fresh (seat_of T own)) (I.opens T own x o) t ∙ sym (answers_to_from (seat_of T own) (calls_in es));
  stood = λ T own x es o t.
      I.same_standing (seat_of T own) (runs M x es) (after (seat_of T own) (calls_in es))
      (sim_all M I (seat_of T own) es x (I.opens T own x o) t)
      ∙ sym (stand_in_lem (seat_of T own) (calls_in es));
  refusals = λ T own x es w c k o t y e.
      I.refusals (seat_of T own) w (runs M x es) (after (seat_of T own) (calls_in es)) c k
      (sim_all M I (seat_of T own) es x (I.opens T own x o) t) y e;
  totalled = λ T own x es o t.
      subst (λ (st : Stand). take (length st.log) (runs M x es).lent.totals ≡ totals_of st.log)
      (sym (stand_in_lem (seat_of T own) (calls_in es)))
      (I.same_totals (seat_of T own) (runs M x es) (after (seat_of T own) (calls_in es))
      (sim_all M I (seat_of T own) es x (I.opens T own x o) t));
  finds = λ T own x es w e o t y.
      I.finds (seat_of T own) w (runs M x es) (after (seat_of T own) (calls_in es)) e
      (sim_all M I (seat_of T own) es x (I.opens T own x o) t) y;
  begins = λ T own x es w b o t y.
      I.begins (seat_of T own) w (runs M x es) (after (seat_of T own) (calls_in es)) b
      (sim_all M I (seat_of T own) es x (I.opens T own x o) t) y;
}
