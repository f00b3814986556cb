-- Filing a proposal, case by case: what was found, and so what is answered and left. Assumes nothing.
use Prim.Native.Nat.{ℕ}
use mathlib.Core.List.{List}
use mathlib.Core.Bool.{Bool, true, false, ◌&&◌}
use mathlib.Core.Path.{◌≡◌, refl}
use lib.Dec.{eqb}
use lib.ListN.{get_or, set}
use Rattle.message.specs.Numbers.{put}
use Rattle.message.specs.Logs.{same_log, names_of, counts_of}
use Rattle.message.specs.Message.{count_in, log_in}
use Rattle.agreement.specs.Limits.{place_of}
use Rattle.agreement.specs.Sets.{member}
use Rattle.agreement.specs.Record.{filed_log}
use Rattle.agreement.specs.Filing.{Fit, unfit}
use Rattle.agreement.specs.Proposals.{Proposals, proposals_from, shown_once, shown_twice, file_proposal_of, FilesProposal}
use Rattle.agreement.specs.declared.Shown.{Shown}
use Rattle.agreement.specs.declared.Answer.TheVariants.{First, Second, Known}
use Rattle.agreement.proofs.FilingLaws.{fit_not_unfit}

module _ (m : Shown) (lengths priorities names counts : List ℕ) (base : ℕ) (s : List ℕ) (i priority : ℕ) where
  abbrev g : Proposals
  g = proposals_from m lengths priorities

  -- known, and all is as it was
  abbrev Still : Type 0
  Still = FilesProposal (file_proposal_of g names counts base s i priority)
      (record { answer = Known; after = m }) lengths priorities names counts

  pub proposal_unfit : (r : Bool) → r ≡ unfit names counts base s i → r ≡ true → Still
  unfolding file_proposal_of
  proposal_unfit r e t =
      rw (← e, t) (record { answered = refl; marks = refl; length_list = refl; priority_list = refl; name_list = refl; count_list = refl })

  module _ (f : Fit names counts base s i) where
    pub proposal_aside : (z : Bool) → z ≡ member m.aside i → z ≡ true → Still
    unfolding file_proposal_of
    proposal_aside z p q =
        rw (fit_not_unfit names counts base s i f, ← p, q)
        (record { answered = refl; marks = refl; length_list = refl; priority_list = refl; name_list = refl; count_list = refl })

    module _ (z : Bool) (p : z ≡ member m.aside i) (q : z ≡ false) (y : Bool) (u : y ≡ member m.filed i) where
      module _ (v : y ≡ true) (r : Bool)
          (e : r ≡ (same_log (log_in s) (filed_log names counts base lengths i) && eqb priority (get_or priorities i 0))) where
        pub proposal_same : r ≡ true → Still
        unfolding file_proposal_of
        proposal_same t =
            rw (fit_not_unfit names counts base s i f, ← p, q, ← u, v, ← e, t)
            (record { answered = refl; marks = refl; length_list = refl; priority_list = refl; name_list = refl; count_list = refl })

        pub proposal_other : (h : Shown) → r ≡ false → h ≡ shown_twice m i
            → FilesProposal (file_proposal_of g names counts base s i priority)
            (record { answer = Second; after = h }) lengths priorities names counts
        unfolding file_proposal_of
        proposal_other h t w =
            rw (fit_not_unfit names counts base s i f, ← p, q, ← u, v, ← e, t)
            (record { answered = refl; marks = w; length_list = refl; priority_list = refl; name_list = refl; count_list = refl })

      pub proposal_new : (h : Shown) (ls ps ns cs : List ℕ) → y ≡ false
          → (ns ≡ put names (place_of base i) (names_of (log_in s))) × (cs ≡ put counts (place_of base i) (counts_of (log_in s)))
          → ls ≡ set lengths i (count_in s) → ps ≡ set priorities i priority → h ≡ shown_once m i
          → FilesProposal (file_proposal_of g names counts base s i priority) (record { answer = First; after = h }) ls ps ns cs
      unfolding file_proposal_of
      proposal_new h ls ps ns cs v (a, b) l d w =
          rw (fit_not_unfit names counts base s i f, ← p, q, ← u, v)
          (record { answered = refl; marks = w; length_list = l; priority_list = d; name_list = a; count_list = b })
