-- Filing a PROPOSAL does to the record what it does to the history, and answers the same word. Assumes nothing.
use Prim.Native.Nat.{ℕ, ◌+◌, ◌^◌, ◌≤◌, ◌<◌}
use native.Mathlib.Decide.{ℕ_discrete}
use native.Mathlib.Omega.{arith}
use mathlib.Core.List.Memᴰ
use mathlib.Core.List.{List, ◌∷◌}
use mathlib.Core.Logic.{inl, inr}
use mathlib.Core.Path.{◌≡◌, refl, sym, ap, subst, ◌∙◌}
use Rattle.message.specs.Numbers.{AllBelow}
use Rattle.message.specs.Logs.{Log, names_of, counts_of}
use Rattle.message.specs.Message.{Content, proposal_message, log_in, Writable}
use Rattle.message.specs.Store.{log_at}
use Rattle.agreement.specs.Sets.{is_yes}
use Rattle.agreement.specs.Limits.{span}
use Rattle.agreement.specs.Filing.{Fit}
use Rattle.agreement.specs.Proposals.{ProposalFiling, file_proposal_of, Proposals}
use Rattle.agreement.specs.Kept.{Proposed, same_proposal, word_on, keep, kept_proposal}
use Rattle.agreement.specs.Heard.{ProposalHeard, heard_proposals}
use Rattle.agreement.proofs.KeptLaws.{proposal_word, proposal_kept, proposal_apart, proposal_view}
use Rattle.agreement.proofs.ElsewhereLaws.{Elsewhere, proposal_elsewhere}
use Rattle.agreement.proofs.KeptOfLaws.{proposals_same, proposals_other}
use Rattle.bench.specs.Terms.{Seat}
use Rattle.bench.specs.Calls.{Core}
use Rattle.bench.specs.Layout.{proposals_place, decided_place}
use Rattle.bench.specs.Calendar.{view_beat, input_beat}
use Rattle.bench.specs.History.{History, file, word_for}
use Rattle.bench.specs.Record.{agreement_of, proposals_of, with_proposals, Bench}
use Rattle.bench.specs.ByRecord.{decided_log}
use Rattle.bench.proofs.Valid.{ValidProposals}
use Rattle.bench.proofs.ValidProposals.{file_proposal_valid}
use Rattle.bench.proofs.ValidBench.{with_proposals_valid}
use Rattle.bench.proofs.Slots.{agreement_valid, proposals_view, proposals_valid}
use Rattle.bench.proofs.GoodHistory.{file_good}
use Rattle.bench.proofs.Refinement.{HoldsProposals, Filled, Refines}
use Rattle.bench.proofs.LogRefinement.{Carries, roomy_elsewhere}
use Rattle.bench.proofs.Filling.{logs_low, holds_same, holds_elsewhere, proposals_views}

module _ (S : Seat) (s : Core) (p : History) (t : Refines S s p) (bytes : List ℕ) (m : Content) (priority : ℕ)
    (good : Writable S.terms.n m) (small : priority < 2 ^ 64)
    (c : Carries bytes m.log) (late : view_beat m.view < s.bench.next) (soon : s.bench.next ≤ input_beat m.view + 1) where
  abbrev bench : Bench
  bench = s.bench

  abbrev filed : Proposals
  filed = proposals_of bench m.view

  abbrev after : ProposalFiling
  after = file_proposal_of filed s.names s.counts proposals_place bytes m.sender priority

  abbrev heard : ProposalHeard
  heard = record { content = m; priority = priority }

  abbrev then : History
  then = file p (proposal_message m priority)

  proposal_fits : Fit s.names s.counts proposals_place bytes m.sender
  proposal_fits =
      let a = good.sender in
      let d = t.valid.few in
      let e = t.n_is in
      let x = t.roomy.names in
      let y = t.roomy.counts in
      record { few = omega arith; in_names = omega arith; in_counts = omega arith; holds = c.holds }

  valid_filed : ValidProposals bench.n filed
  valid_filed = proposals_valid bench m.view good.view t.valid

  lists_elsewhere : Elsewhere proposals_place span s.names s.counts after.names after.counts
  lists_elsewhere =
      proposal_elsewhere s.names s.counts proposals_place bytes m.sender proposal_fits
      (subst (λ (L : Log). AllBelow (2 ^ 64) (names_of L)) (sym c.log) good.names)
      (subst (λ (L : Log). AllBelow (2 ^ 16) (counts_of L)) (sym c.log) good.counts) filed priority

  held : HoldsProposals s.names s.counts filed p m.view
  held = t.filled.proposals m.view good.view soon

  -- what is sent, in the bytes and in the message
  sent : ◌≡◌ {A = Proposed} (record { log = log_in bytes; priority = priority }) (record { log = m.log; priority = priority })
  sent = let f = c.log in λ i. record { log = f i; priority = priority }

  pub proposal_word_refines : after.word ≡ word_for p (proposal_message m priority)
  unfolding word_for
  proposal_word_refines =
      let e = held m.sender in
      let f = sent in
      proposal_word filed s.names s.counts proposals_place bytes m.sender priority proposal_fits
      ∙ (λ i. word_on same_proposal (e i) (f i))

  holds_then : HoldsProposals after.names after.counts after.proposals then m.view
  unfolding file
  holds_then j = elim (ℕ_discrete j m.sender) [
    | yes x ↦
        subst (λ (i : ℕ). kept_proposal after.names after.counts proposals_place after.proposals i ≡ heard_proposals
        (heard ∷ p.proposals) m.view i) (sym x) own_proposal
    | no x ↦
        proposal_apart filed s.names s.counts proposals_place bytes m.sender priority proposal_fits j x
        (valid_filed.proposer j).short
        ∙ held j
        ∙ sym (proposals_other p.proposals heard m.view j (inr x))
  ]
    where
      own_proposal : kept_proposal after.names after.counts proposals_place after.proposals m.sender ≡ heard_proposals
          (heard ∷ p.proposals) m.view m.sender
      own_proposal =
          let e = held m.sender in
          let f = sent in
          proposal_kept filed s.names s.counts proposals_place bytes m.sender priority proposal_fits valid_filed.sized
          ∙ (λ i. keep same_proposal (e i) (f i))
          ∙ sym (proposals_same p.proposals heard)

  filled_then : Filled (with_proposals bench after.proposals) after.names after.counts then
  unfolding file agreement_of
  filled_then = record {
    views = λ u i o.
        let z = logs_low u in
        holds_same (record { logs = λ j. refl; acts = λ k. refl })
        (holds_elsewhere lists_elsewhere (agreement_of bench u) p u t.valid.few (agreement_valid bench u i t.valid)
        (inl (omega arith)) (t.filled.views u i o));
    proposals = λ u i o.
        proposals_views after.names after.counts then t.filled m.view late soon after.proposals
        (proposal_view filed s.names s.counts proposals_place bytes m.sender priority ∙ proposals_view bench m.view)
        holds_then (λ x d j. proposals_other p.proposals heard x j (inl d)) u o;
    since =
        record {
          logs = t.filled.since.logs;
          proposals = λ h i. elim (Memᴰ.cases_cons i) [
            | inl y ↦ let z = ap (λ (a : ProposalHeard). a.content.view) y in omega arith
            | inr j ↦ t.filled.since.proposals h j
          ];
          acts = t.filled.since.acts;
        };
  }

  pub proposal_refines : Refines S
      (record { bench = with_proposals bench after.proposals; names = after.names; counts = after.counts }) then
  unfolding file
  proposal_refines =
      let h = t.valid.decided in
      let same : log_at after.names after.counts decided_place bench.decided ≡ decided_log s =
      lists_elsewhere.logs decided_place bench.decided (inr (omega arith)) in
      record {
        n_is = t.n_is;
        own_is = t.own_is;
        valid =
            with_proposals_valid bench t.valid after.proposals
            (file_proposal_valid bench.n filed valid_filed s.names s.counts proposals_place bytes m.sender priority
            (let a = good.sender in let d = t.n_is in omega arith));
        roomy = roomy_elsewhere lists_elsewhere t.roomy;
        last_is = t.last_is;
        gathering_is = t.gathering_is;
        filled = filled_then;
        stand_is = (λ i. record { log = same i; parted = is_yes bench.parted }) ∙ t.stand_is;
        good = file_good S p (proposal_message m priority) (good, small) t.good;
      }
