-- An act ends the gathering and settles its decision: what stands in the record and the lists is what the decisions come to; what is filed
-- stays. Assumes nothing.
use Prim.Native.Nat.{ℕ}
use native.Mathlib.Omega.{arith}
use mathlib.Core.Bool.{true, false}
use mathlib.Core.List.{List}
use mathlib.Core.Option.{Option, some, none}
use mathlib.Core.Path.{◌≡◌, refl, sym, ap, ◌∙◌}
use lib.ListN.{length}
use Rattle.message.specs.Limits.{most_blocks}
use Rattle.message.specs.Numbers.{put}
use Rattle.message.specs.Logs.{Log, is_prefix, names_of, counts_of}
use Rattle.message.specs.Store.{log_at}
use Rattle.message.proofs.GoodLogs.{GoodLog}
use Rattle.message.proofs.TestLaws.{either}
use Rattle.message.proofs.ListedLaws.{log_stored}
use Rattle.agreement.proofs.ElsewhereLaws.{Elsewhere, put_elsewhere}
use Rattle.agreement.specs.Sets.{is_yes}
use Rattle.bench.specs.Terms.{Seat}
use Rattle.bench.specs.Calls.{Core}
use Rattle.bench.specs.Layout.{decided_place}
use Rattle.bench.specs.Acts.{Stand, settle}
use Rattle.bench.specs.History.{History, stand_in}
use Rattle.bench.specs.Record.{agreement_of, proposals_of, with_gathering_over, with_decided, with_parted, Bench}
use Rattle.bench.specs.ByRecord.{decided_log, over, settled, stand_of}
use Rattle.bench.proofs.Valid.{Valid}
use Rattle.bench.proofs.ValidBench.{over_valid, decided_valid, parted_valid}
use Rattle.bench.proofs.Refinement.{Filled, Roomy, Refines}
use Rattle.bench.proofs.Filling.{filled_decided}
use Rattle.bench.proofs.LogRefinement.{roomy_elsewhere}

-- The core x after a decision d, of a bench that refined p and whose gathering is over.
pub record Settled (S : Seat) (s : Core) (p : History) (d : Option Log) (x : Core) : Type 0 where
  pub n_is : x.bench.n ≡ S.terms.n
  pub own_is : x.bench.own ≡ S.own
  pub next_is : x.bench.next ≡ s.bench.next
  pub at_rest : x.bench.gathering ≡ 0
  pub valid : Valid x.bench
  pub roomy : Roomy x.names x.counts
  pub filled : Filled x.bench x.names x.counts p
  pub stand_is : stand_of x ≡ settle (stand_in S.stood p.actions) d

-- a record with the same agreements, proposals and beat holds the same
same_filled : {b c : Bench} {ns cs : List ℕ} {p : History} → c.next ≡ b.next → c.even ≡ b.even → c.odd ≡ b.odd
    → c.proposals ≡ b.proposals → Filled b ns cs p → Filled c ns cs p
unfolding agreement_of proposals_of
same_filled e f g h x = record {
  views = rw (e, f, g) x.views;
  proposals = rw (e, h) x.proposals;
  since = rw e x.since;
}

module _ (S : Seat) (s : Core) (p : History) (t : Refines S s p) where
  over_filled : Filled (with_gathering_over s.bench) s.names s.counts p
  over_filled = same_filled refl refl refl refl t.filled

  -- nothing to decide
  none_settled : Settled S s p none (settled (over s) none)
  unfolding settled settle
  none_settled = record {
    n_is = t.n_is;
    own_is = t.own_is;
    next_is = refl;
    at_rest = refl;
    valid = over_valid s.bench t.valid;
    roomy = t.roomy;
    filled = over_filled;
    stand_is = t.stand_is;
  }

  module _ (L : Log) (good : GoodLog L) where
    elsewhere : Elsewhere decided_place most_blocks s.names s.counts (put s.names decided_place (names_of L))
        (put s.counts decided_place (counts_of L))
    elsewhere =
        let l = good.short in
        put_elsewhere decided_place most_blocks s.names s.counts decided_place L (omega arith) (omega arith) good.names good.counts

    there : log_at (put s.names decided_place (names_of L)) (put s.counts decided_place (counts_of L)) decided_place (length L) ≡ L
    there =
        let l = good.short in
        let x = t.roomy.names in
        let y = t.roomy.counts in
        log_stored s.names s.counts decided_place L (omega arith) (omega arith)

    -- the core in which L has replaced what stood
    abbrev replaced : Core
    replaced = record {
      bench = with_decided (with_gathering_over s.bench) (length L);
      names = put s.names decided_place (names_of L);
      counts = put s.counts decided_place (counts_of L);
    }

    stands : decided_log s ≡ (stand_in S.stood p.actions).log
    stands = ap (λ (x : Stand). x.log) t.stand_is

    marked : is_yes s.bench.parted ≡ (stand_in S.stood p.actions).parted
    marked = ap (λ (x : Stand). x.parted) t.stand_is

    -- it extends what stands, is a prefix of it, or conflicts with it
    some_settled : Settled S s p (some L) (settled (over s) (some L))
    unfolding settled settle
    some_settled =
        either (is_prefix (decided_log s) L)
        (λ e.
        let e' : is_prefix (stand_in S.stood p.actions).log L ≡ true = ap (λ (x : Log). is_prefix x L) (sym stands) ∙ e in
        let a = there in
        let m = marked in
        let st : stand_of replaced ≡ record { log = L; parted = (stand_in S.stood p.actions).parted } =
        λ i. record { log = a i; parted = m i } in
        let z : settle (stand_in S.stood p.actions) (some L) ≡ record { log = L; parted = (stand_in S.stood p.actions).parted } =
        rw e' in
        rw e (record {
          n_is = t.n_is;
          own_is = t.own_is;
          next_is = refl;
          at_rest = refl;
          valid = decided_valid (with_gathering_over s.bench) (over_valid s.bench t.valid) (length L) good.short;
          roomy = roomy_elsewhere elsewhere t.roomy;
          filled = same_filled refl refl refl refl (filled_decided t.valid elsewhere t.filled);
          stand_is = st ∙ sym z;
        }))
        (λ e. either (is_prefix L (decided_log s))
        (λ f.
        let e' : is_prefix (stand_in S.stood p.actions).log L ≡ false = ap (λ (x : Log). is_prefix x L) (sym stands) ∙ e in
        let f' : is_prefix L (stand_in S.stood p.actions).log ≡ true = ap (is_prefix L) (sym stands) ∙ f in
        let z : settle (stand_in S.stood p.actions) (some L) ≡ stand_in S.stood p.actions = rw (e', f') in
        rw (e, f) (record {
          n_is = t.n_is;
          own_is = t.own_is;
          next_is = refl;
          at_rest = refl;
          valid = over_valid s.bench t.valid;
          roomy = t.roomy;
          filled = over_filled;
          stand_is = t.stand_is ∙ sym z;
        }))
        (λ f.
        let e' : is_prefix (stand_in S.stood p.actions).log L ≡ false = ap (λ (x : Log). is_prefix x L) (sym stands) ∙ e in
        let f' : is_prefix L (stand_in S.stood p.actions).log ≡ false = ap (is_prefix L) (sym stands) ∙ f in
        let a = stands in
        let st : stand_of (record { bench = with_parted (with_gathering_over s.bench); names = s.names; counts = s.counts }) ≡ record
        { log = (stand_in S.stood p.actions).log; parted = true } =
        λ i. record { log = a i; parted = true } in
        let z : settle (stand_in S.stood p.actions) (some L) ≡ record { log = (stand_in S.stood p.actions).log; parted = true } =
        rw (e', f') in
        rw (e, f) (record {
          n_is = t.n_is;
          own_is = t.own_is;
          next_is = refl;
          at_rest = refl;
          valid = parted_valid (with_gathering_over s.bench) (over_valid s.bench t.valid);
          roomy = t.roomy;
          filled = same_filled refl refl refl refl t.filled;
          stand_is = st ∙ sym z;
        })))

  -- whatever there is to decide
  pub decision_settled : (d : Option Log) → ((L : Log) → d ≡ some L → GoodLog L) → Settled S s p d (settled (over s) d)
  decision_settled none good = none_settled
  decision_settled (some L) good = some_settled L (good L refl)
