-- Which act makes what: voting and proposing, case by case of what was found. Assumes nothing.
use Prim.Native.Nat.{ℕ, ◌≤◌, ◌<◌}
use native.Mathlib.Omega.{arith}
use mathlib.Core.Bool.{true, false, ◌||◌}
use mathlib.Core.List.{List}
use mathlib.Core.Option.{Option, some, none}
use mathlib.Core.Path.{◌≡◌, refl, sym, ap, ◌∙◌}
use Rattle.std.specs.Prelude.{Some, None}
use Rattle.std.specs.Prelude as std
use borrow.Author.Tests.{ltb-true, ltb-false}
use lib.Dec.{eqb, ltb}
use Rattle.message.specs.Limits.{most_blocks, last_view}
use Rattle.message.specs.Logs.{Block, Log}
use Rattle.message.specs.Message.{Meaning, log_message}
use Rattle.message.specs.Store.{log_at, log_from, proposal_from}
use Rattle.message.proofs.TestLaws.{either, or_false}
use Rattle.message.proofs.ListedLaws.{length_at_lem}
use Rattle.bench.specs.Calendar.{Act, proposing, voting}
use Rattle.bench.specs.Calls.{Core}
use Rattle.bench.specs.Acts.{propose, vote, makes}
use Rattle.bench.specs.ByRecord.{changed, used_of, seen_of, acted_of}
use Rattle.bench.specs.Answers.{core_with}
use Rattle.bench.specs.Tested.{Tested, Before}
use Rattle.calls.specs.Steps.{found_log, Finds, ballot, ballot_of, Making, MakeGives, made_step}
use Rattle.calls.specs.Steps.{no_block}
use Rattle.bench.specs.Record.{Bench, bench_with}
use Rattle.bench.specs.declared.Head.{Head}
use Rattle.bench.specs.declared.Rows.{Rows}
use Rattle.bench.proofs.Replies.{made_nothing}
use Rattle.bench.proofs.ActLaws.{voted_none, voted_some, proposed_none, proposed_unnamed, proposed_full, proposed_some, makes_proposing}
use Rattle.bench.proofs.ActLaws.{makes_voting, makes_late, changed_proposing, changed_voting, acted_by}
use Rattle.bench.specs.declared.Made.{Made}
use Rattle.bench.specs.declared.Made.TheVariants as makings
use Rattle.calls.specs.declared.seeing.Listed.{Listed}

-- ---- an act, by what it makes

module _ (s : Core) (block : Block) (priority : ℕ) (out : List ℕ) (v : ℕ) (a : Act) where
  -- nothing: what it changed is left
  pub acts_none : (c : Bench) (ns cs : List ℕ) → changed s v a ≡ core_with c ns cs
      → makes s.bench.own v block priority (seen_of s v a) a ≡ none
      → MakeGives (acted_of s block priority out v a) makings.Nothing c ns cs out
  acts_none c ns cs e q =
      rw (acted_by s v block priority out a (core_with c ns cs) none e q)
      (record { answered = made_nothing out; bench = refl; name_list = refl; count_list = refl; buffer = refl })

  acts_made : (m : Meaning) (r : Made) (c : Bench) (ns cs o : List ℕ) → changed s v a ≡ s
      → makes s.bench.own v block priority (seen_of s v a) a ≡ some m → MakeGives (made_step s out m) r c ns cs o
      → MakeGives (acted_of s block priority out v a) r c ns cs o
  acts_made m r c ns cs o e q t = rw (acted_by s v block priority out a s (some m) e q) t

-- ---- what the rules make

-- the LOG of the log voted for, where there is one
abbrev voted_for : ℕ → ℕ → Option Log → Option Meaning
voted_for own v none = none
voted_for own v (some L) = some (log_message (record { sender = own; view = v; log = L }))

vote_for : (own v : ℕ) (choose : Log → Log) (o : Option Log) → vote own v choose o ≡ voted_for own v (ballot choose o)
vote_for own v choose none = voted_none own v choose
vote_for own v choose (some lock) = voted_some own v choose lock

-- the code's test before it proposes
early : (v name : ℕ) → (ltb last_view v || eqb name 0) ≡ false → v ≤ last_view
early v name e = ltb-false last_view v (or_false (ltb last_view v) (eqb name 0) e).0

module _ (h : Head) (rows : Rows) (names counts out : List ℕ) (v : ℕ) where
  abbrev b : Bench
  b = bench_with h rows

  abbrev s : Core
  s = core_with b names counts

  -- nothing is made
  abbrev Still : Block → ℕ → Act → Type 0
  Still block priority a = MakeGives (acted_of s block priority out v a) makings.Nothing b names counts out

  asked : (a k : ℕ) → Tested s out → v ≤ last_view → Before a k → Making names counts out v a k
  asked a k t l x = record { lists = t.usable.lists; room = t.room; early = l; before = x }

  -- ---- voting

  no_vote : makes h.own v no_block 0 (seen_of s v voting) voting ≡ none → Still no_block 0 voting
  no_vote q = acts_none s no_block 0 out v voting b names counts (changed_voting s v) q

  pub vote_late : last_view < v → Still no_block 0 voting
  vote_late l = no_vote (makes_late h.own v no_block 0 (seen_of s v voting) voting l)

  module _ (r : std.Option Listed) (l : v ≤ last_view) (f : Finds (ballot_of s v) names counts r) where
    vote_made : makes h.own v no_block 0 (seen_of s v voting) voting ≡ voted_for h.own v (found_log names counts r)
    vote_made =
        makes_voting h.own v no_block 0 (seen_of s v voting) l
        ∙ vote_for h.own v (seen_of s v voting).choose (used_of s v voting)
        ∙ ap (voted_for h.own v) (sym f.log)

    pub vote_nowhere : r ≡ None → Still no_block 0 voting
    vote_nowhere t = no_vote (vote_made ∙ ap (λ (x : std.Option Listed). voted_for h.own v (found_log names counts x)) t)

    module _ (w : Listed) (t : r ≡ Some w) where
      pub vote_acts : (x : Made) (c : Bench) (ns cs out' : List ℕ)
          → MakeGives (made_step s out (log_from names counts w.at w.blocks h.own v)) x c ns cs out'
          → MakeGives (acted_of s no_block 0 out v voting) x c ns cs out'
      vote_acts x c ns cs out' m =
          acts_made s no_block 0 out v voting (log_from names counts w.at w.blocks h.own v) x c ns cs out'
          (changed_voting s v) (vote_made ∙ ap (λ (y : std.Option Listed). voted_for h.own v (found_log names counts y)) t) m

  -- ---- proposing

  module _ (name count priority : ℕ) where
    abbrev block : Block
    block = record { name = name; count = count }

    no_proposal : makes h.own v block priority (seen_of s v proposing) proposing ≡ none → Still block priority proposing
    no_proposal q = acts_none s block priority out v proposing b names counts (changed_proposing s v) q

    pub propose_late : (ltb last_view v || eqb name 0) ≡ true → Still block priority proposing
    propose_late x =
        no_proposal
        (either (ltb last_view v)
        (λ t. makes_late h.own v block priority (seen_of s v proposing) proposing (ltb-true last_view v t))
        (λ t.
        makes_proposing h.own v block priority (seen_of s v proposing) (ltb-false last_view v t)
        ∙ proposed_unnamed h.own v block priority (used_of s v proposing) (rw t at x)))

    -- the candidate, as the code found it
    module _ (x : (ltb last_view v || eqb name 0) ≡ false) (r : std.Option Listed) (f : Finds (used_of s v proposing) names counts r) where
      propose_made : makes h.own v block priority (seen_of s v proposing) proposing ≡ propose h.own v block priority (found_log names counts r)
      propose_made =
          makes_proposing h.own v block priority (seen_of s v proposing) (early v name x)
          ∙ ap (propose h.own v block priority) (sym f.log)

      abbrev proposed_by : std.Option Listed → Option Meaning
      proposed_by y = propose h.own v block priority (found_log names counts y)

      pub propose_nobody : r ≡ None → Still block priority proposing
      propose_nobody t = no_proposal (propose_made ∙ ap proposed_by t ∙ proposed_none h.own v block priority)

      module _ (w : Listed) (t : r ≡ Some w) where
        named : eqb name 0 ≡ false
        named = (or_false (ltb last_view v) (eqb name 0) x).1

        pub propose_full : most_blocks ≤ w.blocks → Still block priority proposing
        propose_full few =
            let l = length_at_lem names counts w.at w.blocks in
            no_proposal
            (propose_made ∙ ap proposed_by t ∙ proposed_full h.own v block priority (log_at names counts w.at w.blocks) named (omega arith))

        pub propose_acts : w.blocks < most_blocks → (z : Made) (c : Bench) (ns cs out' : List ℕ)
            → MakeGives (made_step s out (proposal_from names counts w.at w.blocks block h.own v priority)) z c ns cs out'
            → MakeGives (acted_of s block priority out v proposing) z c ns cs out'
        propose_acts few z c ns cs out' m =
            let l = length_at_lem names counts w.at w.blocks in
            acts_made s block priority out v proposing (proposal_from names counts w.at w.blocks block h.own v priority) z c ns cs out'
            (changed_proposing s v)
            (propose_made ∙ ap proposed_by t ∙ proposed_some h.own v block priority (log_at names counts w.at w.blocks) named (omega arith)) m
