-- Whether the log in the bytes is a sender's vote, case by case, as the code finds it. Assumes nothing.
use Prim.Native.Nat.{ℕ, ◌<◌}
use mathlib.Core.Bool.{Bool, true, false, false≢true}
use mathlib.Core.List.{List}
use mathlib.Core.Path.{◌≡◌, refl, sym, ◌∙◌}
use Rattle.message.specs.Logs.{same_log}
use Rattle.message.specs.Message.{log_in}
use Rattle.message.proofs.TestLaws.{either}
use Rattle.agreement.specs.Limits.{most_senders}
use Rattle.agreement.specs.Record.{Agreement, agreement_from, is_voter, is_equivocator, filed_log}
use Rattle.agreement.specs.Filing.{known, unfit, Fit, unwritten, file_of}
use Rattle.agreement.specs.Kept.{is_only, kept_log, is_vote_in}
use Rattle.agreement.specs.declared.Marks.{Marks}
use Rattle.agreement.proofs.FilingLaws.{fit, fit_not_unfit}

-- where something can be filed, it is what is kept of the sender that tells
pub vote_fit : (g : Agreement) (names counts : List ℕ) (base : ℕ) (s : List ℕ) (i : ℕ) → Fit names counts base s i
    → is_vote_in g names counts base s i ≡ is_only same_log (kept_log names counts base g i) (log_in s)
vote_fit g names counts base s i f = rw (fit_not_unfit names counts base s i f)

-- a LOG that is the sender's vote is known, and nothing changes
pub vote_known : (g : Agreement) (names counts : List ℕ) (base : ℕ) (s : List ℕ) (i : ℕ) → Fit names counts base s i
    → is_only same_log (kept_log names counts base g i) (log_in s) ≡ true
    → file_of g names counts base s i ≡ unwritten known g names counts
unfolding file_of kept_log
vote_known g names counts base s i f e =
    let fits = fit_not_unfit names counts base s i f in
    either (is_equivocator g i)
    (λ q. absurd (false≢true (rw q at e)))
    (λ q. either (is_voter g i) (λ v. rw (fits, q, v, rw (q, v) at e)) (λ v. absurd (false≢true (rw (q, v) at e))))

module _ (m : Marks) (lengths names counts : List ℕ) (base : ℕ) (s : List ℕ) (i : ℕ) (r : Bool) (e : r ≡ unfit names counts base s i) where
  abbrev g : Agreement
  g = agreement_from m lengths

  pub vote-unfit : r ≡ true → false ≡ is_vote_in g names counts base s i
  vote-unfit t = rw (← e, t) refl

  module _ (t : r ≡ false) where
    pub vote_few : i < most_senders
    vote_few = (fit names counts base s i (sym e ∙ t)).few

    module _ (z : Bool) (p : z ≡ is_equivocator g i) where
      pub vote_differing : z ≡ true → false ≡ is_vote_in g names counts base s i
      unfolding kept_log
      vote_differing q = rw (← e, t, ← p, q) refl

      module _ (q : z ≡ false) (y : Bool) (u : y ≡ is_voter g i) where
        pub vote_filed : y ≡ true → (x : Bool) → x ≡ same_log (log_in s) (filed_log names counts base lengths i)
            → x ≡ is_vote_in g names counts base s i
        unfolding kept_log
        vote_filed v x w = rw (← e, t, ← p, q, ← u, v) w

        pub vote_nothing : y ≡ false → false ≡ is_vote_in g names counts base s i
        unfolding kept_log
        vote_nothing v = rw (← e, t, ← p, q, ← u, v) refl
