-- Demand 3 of the bench: its record and lists refine its history, call by call, and so it is faithful. Assumes nothing.
use Prim.Native.Nat.{ℕ}
use mathlib.Core.Bool.{false}
use mathlib.Core.Option.{some, none}
use mathlib.Core.Path.{◌≡◌, refl, sym, ap, subst, ◌∙◌}
use lib.ListN.{length, take}
use Rattle.message.specs.Logs.{Log}
use Rattle.message.proofs.CauseLaws.{passes}
use Rattle.agreement.specs.Sets.{is_yes}
use Rattle.bench.specs.Terms.{Terms, Seat, seat_of}
use Rattle.bench.specs.Layout.{Lent, out_of_range, short_lists}
use Rattle.bench.specs.Calls.{Call, begin, receive, act, refused, done, State, core_of, Opening, Step, Typed, find}
use Rattle.bench.specs.Causes.{open_causes}
use Rattle.bench.specs.Acts.{Stand}
use Rattle.bench.specs.Totals.{totals_of}
use Rattle.bench.specs.History.{History, fresh, open_refusal, stand_in}
use Rattle.bench.specs.Record.{fresh_bench, Bench}
use Rattle.bench.specs.ByRecord.{open_of, standing}
use Rattle.bench.proofs.Refinement.{Refines}
use Rattle.bench.proofs.TotalLaws.{totals_first}
use Rattle.bench.proofs.TotalRefinement.{Totalled}
use Rattle.bench.proofs.CallRefinement.{Agrees, begin_agrees, receive_agrees, find_agrees, open_refines, open_totalled}
use Rattle.bench.proofs.Refusals.{open_refused, open_done, open_none, open_same, begin_lent, find_held}
use Rattle.bench.proofs.Acting.{act_agrees}
use Rattle.demand.specs.Demand.{Way, byValue, onLent, call, OpensRightly, OpenedAs, Demand3}
use Rattle.demand.specs.TheBench.{the_bench}
use Rattle.demand.proofs.Reduce.{Simulation, faithful, demand3}

-- a call on a lent record does what it does by value
either_way : (w : Way) (x : State) (c : Call) → call the_bench w x c ≡ call the_bench byValue x c
either_way byValue x c = refl
either_way onLent x (begin b) = refl
either_way onLent x (receive bytes) = refl
either_way onLent x (act block priority out) = refl
either_way onLent x (find e) = refl

-- each call agrees with the history's
agrees_by_value : (S : Seat) (x : State) (p : History) (c : Call) → Refines S (core_of x) p → Totalled x → Typed c
    → Agrees S x p c (call the_bench byValue x c)
agrees_by_value S x p (begin b) t u y = begin_agrees S x p t u b
agrees_by_value S x p (receive bytes) t u y = receive_agrees S x p t u bytes y.0
agrees_by_value S x p (act block priority out) t u y = act_agrees S x p t u block priority out y
agrees_by_value S x p (find e) t u y = find_agrees S x p t u e

-- record and blocks refine the history, and the totals are those of what stands
abbrev Held : Seat → State → History → Type 0
Held S x p = Refines S (core_of x) p × Totalled x

agrees : (S : Seat) (w : Way) (x : State) (p : History) (c : Call) → Held S x p → Typed c → Agrees S x p c (call the_bench w x c)
agrees S w x p c h y = subst (Agrees S x p c) (sym (either_way w x c)) (agrees_by_value S x p c h.0 h.1 y)

-- as the history has it
totals_same : (S : Seat) (x : State) (p : History) → Held S x p
    → take (length (stand_in S.stood p.actions).log) x.lent.totals ≡ totals_of (stand_in S.stood p.actions).log
totals_same S x p h =
    let e = ap (λ (st : Stand). st.log) h.0.stand_is in
    subst (λ (L : Log). take (length L) x.lent.totals ≡ totals_of L) e (totals_first (standing x).log x.lent.totals h.1.right)

-- ---- Open

module _ (T : Terms) (own : ℕ) (l : Lent) where
  refuses : (k : ℕ) → open_refusal (seat_of T own) l ≡ some k → (open_of T.n own l).reply ≡ refused k
  refuses k r = ap (λ (o : Opening). o.reply) (open_refused T.n own l k (sym (open_same T own l) ∙ r))

  opens : open_refusal (seat_of T own) l ≡ none
      → ((open_of T.n own l).reply ≡ done) × ((open_of T.n own l).bench.decided ≡ 0) ×
      (is_yes (open_of T.n own l).bench.parted ≡ false)
  opens r = rw (open_done T.n own l (sym (open_same T own l) ∙ r)) (refl, refl, refl)

  -- a bench that Open gave is fresh, and 7 and 8 do not hold
  given_fresh : (b : Bench) → open_of T.n own l ≡ record { reply = done; bench = b }
      → (out_of_range T.n own ≡ false) × (short_lists l ≡ false) × (fresh_bench T.n own ≡ b)
  given_fresh b g =
      let none-fails = open_none T.n own l (ap (λ (o : Opening). o.reply) g) in
      let (range, (lists, end)) = passes (open_causes T.n own l) none-fails in
      (range, lists, ap (λ (o : Opening). o.bench) (sym (open_done T.n own l none-fails) ∙ g))

opens_rightly : OpensRightly the_bench
opens_rightly = record { refuses = λ T own l k t e. refuses T own l k e; opens = λ T own l t e. opens T own l e }

opens_held : (T : Terms) (own : ℕ) (x : State) → OpenedAs the_bench T own x → Held (seat_of T own) x (fresh (seat_of T own))
opens_held T own x o =
    let g = given_fresh T own x.lent x.bench o.given in
    subst (λ (b : Bench). Held (seat_of T own) (record { bench = b; lent = x.lent }) (fresh (seat_of T own))) g.2 (
      open_refines T own x.lent g.0 g.1 o.typed.names.0 o.typed.counts.0,
      open_totalled T.n own x.lent g.1,
    )

-- ---- the theorem

pub bench_simulates : Simulation the_bench
bench_simulates = record {
  rightly = opens_rightly;
  Rel = Held;
  opens = opens_held;
  same_answer = λ S w x p c t y. (agrees S w x p c t y).answered;
  keeps = λ S w x p c t y. let a = agrees S w x p c t y in (a.refined, a.totalled);
  same_standing = λ S x p t. t.0.stand_is;
  same_totals = totals_same;
  finds = λ S w x p e t y. find_held x e;
  refusals = λ S w x p c k t y e. (agrees S w x p c t y).left k e;
  begins = λ S w x p b t y. ap (λ (s : Step). s.held.lent) (either_way w x (begin b)) ∙ begin_lent x b;
}

-- Demand 3.
pub bench_demand3 : Demand3 the_bench
bench_demand3 = demand3 the_bench (faithful the_bench bench_simulates)
