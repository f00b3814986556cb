-- Entries looked up by their numbers, on both sides of each block's edge; and 9 by the totals, on both sides of the decided length: two
-- tables, computed of a log by the definitions that both descriptions of a bench use. Order has rows of the same on a record. Assumes
-- nothing.
use Prim.Native.Nat.{ℕ}
use mathlib.Core.Bool.{Bool, true, false}
use mathlib.Core.List.{List, [], ◌∷◌, map}
use mathlib.Core.Path.{◌≡◌, refl}
use lib.ListN.{length, replicate, set}
use Rattle.message.specs.Limits.{most_blocks}
use Rattle.message.specs.Causes.{first_failure, judged_by}
use Rattle.message.specs.Numbers.{put}
use Rattle.message.specs.Logs.{Log, in_step, counts_of}
use Rattle.bench.specs.Totals.{totals_from, totals_of, unlike, sum_of, block_holding, inside_block}
use Rattle.bench.specs.Calls.{Reply, refused, found, found_in}
use Rattle.bench.specs.Causes.{find_causes}

-- a log of blocks with these counts
abbrev holding : List ℕ → Log
holding counts = in_step (replicate (length counts) 1) counts

-- its totals, and 7 at each place past them
abbrev right : List ℕ → List ℕ
right counts = put (replicate most_blocks 7) 0 (totals_from 0 counts)

-- ---- look-ups

pub record Row : Type 0 where
  pub counts : List ℕ
  pub entry : ℕ
  pub reply : Reply

abbrev row : List ℕ → ℕ → Reply → Row
row counts e r = record { counts = counts; entry = e; reply = r }

-- the most entries that a log can hold: 64 × 65,535
abbrev full : List ℕ
full = replicate most_blocks 65535

abbrev pub rows : List Row
rows =
    -- nothing decided, and blocks that hold no entry
    row [] 0 (refused 23)
    ∷ row [] 4294967295 (refused 23)
    ∷ row (0 ∷ []) 0 (refused 23)
    ∷ row (0 ∷ 0 ∷ 0 ∷ []) 0 (refused 23)
    -- one block
    ∷ row (3 ∷ []) 0 (found 0 0)
    ∷ row (3 ∷ []) 2 (found 0 2)
    ∷ row (3 ∷ []) 3 (refused 23)
    ∷ row (3 ∷ []) 4294967295 (refused 23)
    -- the first entry of a block and the last; a block of count zero between two, in front, and last
    ∷ row (3 ∷ 2 ∷ []) 2 (found 0 2)
    ∷ row (3 ∷ 2 ∷ []) 3 (found 1 0)
    ∷ row (3 ∷ 2 ∷ []) 4 (found 1 1)
    ∷ row (3 ∷ 2 ∷ []) 5 (refused 23)
    ∷ row (3 ∷ 0 ∷ 2 ∷ []) 2 (found 0 2)
    ∷ row (3 ∷ 0 ∷ 2 ∷ []) 3 (found 2 0)
    ∷ row (0 ∷ 0 ∷ 1 ∷ []) 0 (found 2 0)
    ∷ row (0 ∷ 1 ∷ 0 ∷ []) 0 (found 1 0)
    ∷ row (0 ∷ 1 ∷ 0 ∷ []) 1 (refused 23)
    -- entry 4,117 of docs/READING.md
    ∷ row (1200 ∷ 2000 ∷ 0 ∷ 900 ∷ 0 ∷ 350 ∷ []) 4117 (found 5 17)
    ∷ row (1200 ∷ 2000 ∷ 0 ∷ 900 ∷ 0 ∷ 350 ∷ []) 3200 (found 3 0)
    ∷ row (1200 ∷ 2000 ∷ 0 ∷ 900 ∷ 0 ∷ 350 ∷ []) 4449 (found 5 349)
    ∷ row (1200 ∷ 2000 ∷ 0 ∷ 900 ∷ 0 ∷ 350 ∷ []) 4450 (refused 23)
    -- 64 blocks of 65,535
    ∷ row full 0 (found 0 0)
    ∷ row full 65534 (found 0 65534)
    ∷ row full 65535 (found 1 0)
    ∷ row full 4194239 (found 63 65534)
    ∷ row full 4194240 (refused 23)
    ∷ []

-- what Find answers where the record is served
abbrev answered : Row → Reply
answered r = judged_by (find_causes (holding r.counts) r.entry) refused (found_in (holding r.counts) r.entry)

pub rows_hold : map answered rows ≡ map (λ (r : Row). r.reply) rows
unfolding judged_by first_failure sum_of block_holding inside_block in_step counts_of
rows_hold = refl

-- ---- 9 by the totals

pub record Listed : Type 0 where
  pub counts : List ℕ
  pub totals : List ℕ
  pub wrong : Bool

abbrev listed : List ℕ → List ℕ → Bool → Listed
listed counts totals wrong = record { counts = counts; totals = totals; wrong = wrong }

abbrev pub lists : List Listed
lists =
    -- nothing decided: any totals
    listed [] (replicate 64 7) false
    -- each place below the decided length, and the first past it
    ∷ listed (3 ∷ 0 ∷ 2 ∷ []) (right (3 ∷ 0 ∷ 2 ∷ [])) false
    ∷ listed (3 ∷ 0 ∷ 2 ∷ []) (set (right (3 ∷ 0 ∷ 2 ∷ [])) 0 0) true
    ∷ listed (3 ∷ 0 ∷ 2 ∷ []) (set (right (3 ∷ 0 ∷ 2 ∷ [])) 1 4) true
    ∷ listed (3 ∷ 0 ∷ 2 ∷ []) (set (right (3 ∷ 0 ∷ 2 ∷ [])) 2 3) true
    ∷ listed (3 ∷ 0 ∷ 2 ∷ []) (set (right (3 ∷ 0 ∷ 2 ∷ [])) 3 0) false
    -- each total before its block; the totals of one block fewer
    ∷ listed (3 ∷ 2 ∷ []) (0 ∷ 3 ∷ 5 ∷ replicate 61 7) true
    ∷ listed (3 ∷ 2 ∷ []) (3 ∷ replicate 63 7) true
    -- the last of 64; a longer list
    ∷ listed full (right full) false
    ∷ listed full (set (right full) 63 4194239) true
    ∷ listed (3 ∷ []) (3 ∷ replicate 99 7) false
    ∷ []

pub lists_hold : map (λ (r : Listed). unlike (totals_of (holding r.counts)) r.totals) lists ≡ map (λ (r : Listed). r.wrong) lists
unfolding unlike totals_from put in_step counts_of
lists_hold = refl
