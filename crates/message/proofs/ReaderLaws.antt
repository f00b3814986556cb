-- What read_of is at each return of the reader, in the order of its tests. Assumes nothing.
use Prim.Native.Nat.{ℕ, ◌+◌, ◌*◌, ◌<◌, ◌≤◌}
use native.Mathlib.Omega.{arith}
use mathlib.Core.List.{List}
use mathlib.Core.Bool.{Bool, true, false, not, ◌&&◌, ◌||◌}
use mathlib.Core.Logic.{inl, inr}
use mathlib.Core.Path.{◌≡◌, refl, sym, ap, ◌∙◌}
use borrow.Author.Tests.{lt-ltb, le-ltb, le-leb, lt-leb, ltb-false, eqb-true, not-false}
use lib.Dec.{ltb, eqb}
use lib.ListN.{length, get_or, drop}
use Rattle.std.specs.Prelude.{Ok, Err}
use Rattle.message.specs.Limits.{most_blocks, last_view, head_length, name_width, block_width}
use Rattle.message.specs.Message.{log_kind, proposal_kind, view_in, priority_in, malformed, any_zero, zero_named, names_in, meaning_in}
use Rattle.message.specs.Message.{read_causes, means, read_of, parsed_of}
use Rattle.message.specs.Refusals.{number_of}
use Rattle.message.proofs.TestLaws.{or_false}
use Rattle.message.proofs.CauseLaws.{FailsBy, first_failure_lem}
use Rattle.message.proofs.Acceptance.{read_refused, accepts, meaning_log, meaning_other}
use Rattle.message.specs.declared.Message.TheVariants.{Log, Proposal}
use Rattle.message.specs.declared.refusal.Refusal.{Refusal}
use Rattle.message.specs.declared.refusal.Refusal.TheVariants as refusals

-- a message that is not missized has the size that its block count says
sized : (s : List ℕ) (k : ℕ) → (ltb most_blocks k || not (eqb (length s) (head_length + block_width * k))) ≡ false
    → (k ≤ most_blocks) × (length s ≡ head_length + block_width * k)
sized s k e =
    let p = or_false (ltb most_blocks k) (not (eqb (length s) (head_length + block_width * k))) e in
    (ltb-false most_blocks k p.0, eqb-true (length s) (head_length + block_width * k) (not-false _ p.1))

pub room_for_names : (s : List ℕ) (k : ℕ) → (ltb most_blocks k || not (eqb (length s) (head_length + block_width * k))) ≡ false
    → head_length + name_width * k ≤ length s
room_for_names s k e = let p = sized s k e in omega arith

module _ (n : ℕ) (s : List ℕ) where
  -- the causes from the one at place i on
  abbrev From : ℕ → ℕ → Type 0
  From i j = FailsBy (drop i (read_causes n s)) j

  by_cause : (why : Refusal) → From 0 (number_of why) → parsed_of s (Err why) ≡ read_of n s
  unfolding parsed_of
  by_cause why f = sym (read_refused n s (number_of why) (first_failure_lem (read_causes n s) (number_of why) f))

  pub read_1 : length s < head_length → parsed_of s (Err refusals.Short) ≡ read_of n s
  read_1 h = by_cause refusals.Short (inl (lt-ltb (length s) head_length h, refl))

  module _ (long : head_length ≤ length s) (k : ℕ) (count : k ≡ get_or s 0 0) where
    past_1 : (j : ℕ) → From 1 j → From 0 j
    past_1 j f = inr (le-ltb (length s) head_length long, f)

    pub read_2 : (ltb most_blocks k || not (eqb (length s) (head_length + block_width * k))) ≡ true → parsed_of s (Err refusals.Length) ≡ read_of n s
    read_2 e = by_cause refusals.Length (past_1 2 (inl (rw (← count) e, refl)))

    module _ (fine : (ltb most_blocks k || not (eqb (length s) (head_length + block_width * k))) ≡ false) (ill : Bool)
        (form : ill ≡ malformed s) where
      past_2 : (j : ℕ) → From 2 j → From 0 j
      past_2 j f = past_1 j (inr (rw (← count) fine, f))

      pub read_3 : ill ≡ true → parsed_of s (Err refusals.Form) ≡ read_of n s
      read_3 e = by_cause refusals.Form (past_2 3 (inl (sym form ∙ e, refl)))

      past_3 : ill ≡ false → (j : ℕ) → From 3 j → From 0 j
      past_3 e j f = past_2 j (inr (sym form ∙ e, f))

      pub read_4 : ill ≡ false → n ≤ get_or s 1 0 → parsed_of s (Err refusals.Sender) ≡ read_of n s
      read_4 e h = by_cause refusals.Sender (past_3 e 4 (inl (le-leb n (get_or s 1 0) h, refl)))

      module _ (well : ill ≡ false) (known : get_or s 1 0 < n) (view : ℕ) (at : view ≡ view_in s) where
        past_4 : (j : ℕ) → From 4 j → From 0 j
        past_4 j f = past_3 well j (inr (lt-leb n (get_or s 1 0) known, f))

        pub read_5 : last_view < view → parsed_of s (Err refusals.View) ≡ read_of n s
        read_5 h = by_cause refusals.View (past_4 5 (inl (rw (← at) (lt-ltb last_view view h), refl)))

        module _ (early : view ≤ last_view) (zero : Bool) (found : zero ≡ any_zero (names_in s k)) where
          seen : zero ≡ zero_named s
          seen = rw (← count) found

          pub read_6 : zero ≡ true → parsed_of s (Err refusals.Name) ≡ read_of n s
          read_6 e = by_cause refusals.Name (past_4 6 (inr (rw (← at) (le-ltb last_view view early), inl (sym seen ∙ e, refl))))

          read_on : zero ≡ false → read_of n s ≡ means (meaning_in s)
          read_on e =
              accepts n s (
                le-ltb (length s) head_length long,
                (
                  rw (← count) fine,
                  (
                    sym form
                        ∙ well,
                    (lt-leb n (get_or s 1 0) known, (rw (← at) (le-ltb last_view view early), (sym seen ∙ e, tt))),
                  ),
                ),
              )

          pub read_log : zero ≡ false → get_or s 2 0 ≡ log_kind
              → parsed_of s (Ok (Log (record { view = view; sender = get_or s 1 0; blocks = get_or s 0 0 }))) ≡ read_of n s
          unfolding parsed_of
          read_log e h = rw at (sym (read_on e ∙ ap means (meaning_log s h)))

          pub read_proposal : (priority : ℕ) → zero ≡ false → (get_or s 2 0 ≡ log_kind → ⊥) → priority ≡ priority_in s
              → parsed_of s (Ok (Proposal (record { view = view; sender = get_or s 1 0; blocks = get_or s 0 0 }) priority)) ≡ read_of n s
          unfolding parsed_of
          read_proposal priority e h p = rw (at, p) (sym (read_on e ∙ ap means (meaning_other s h)))

-- the test of refusal 3, on the bytes it reads
pub malformed_is : (s : List ℕ) (kind priority : ℕ) → kind ≡ get_or s 2 0 → priority ≡ priority_in s
    → (not (eqb kind log_kind || eqb kind proposal_kind) || (not (eqb (get_or s 3 0) 0) || (eqb kind log_kind && not (eqb priority 0))))
    ≡ malformed s
unfolding malformed
malformed_is s kind priority e f = rw (e, f)
