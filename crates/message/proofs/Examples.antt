-- Worked examples of reading: one table, computed. Assumes nothing.
use Prim.Native.Nat.{ℕ}
use mathlib.Core.Path.{◌≡◌, refl}
use mathlib.Core.List.{List, [], ◌∷◌, ◌++◌, map}
use lib.ListN.{replicate}
use Rattle.message.specs.Choice.{any_of}
use Rattle.message.specs.Causes.{first_failure, judged_by}
use Rattle.message.specs.Numbers.{number_at, numbers_at}
use Rattle.message.specs.Logs.{Block, Log, in_step}
use Rattle.message.specs.Message.{Content, log_message, proposal_message, meaning_in, malformed, Parsed, refused, means, read_of}

-- ---- the rows

-- the number of benches, the bytes, and what is read from them
pub record Row : Type 0 where
  pub benches : ℕ
  pub bytes : List ℕ
  pub reading : Parsed

abbrev row : ℕ → List ℕ → Parsed → Row
row n s r = record { benches = n; bytes = s; reading = r }

-- the first 16 bytes: the view is 1,000,000 where its lowest byte is 64, and the one after where it is 65
abbrev from : ℕ → ℕ → ℕ → ℕ → ℕ → ℕ → List ℕ
from k sender kind three view priority = k ∷ sender ∷ kind ∷ three ∷ view ∷ 66 ∷ 15 ∷ 0 ∷ priority ∷ replicate 7 0

abbrev name : ℕ → List ℕ
name x = x ∷ replicate 7 0

abbrev count : ℕ → List ℕ
count x = x ∷ 0 ∷ []

abbrev content : ℕ → ℕ → Log → Content
content sender view L = record { sender = sender; view = view; log = L }

abbrev block : ℕ → ℕ → Block
block x y = record { name = x; count = y }

abbrev pub rows : List Row
rows =
    -- lengths
    row 4 [] (refused 1)
    ∷ row 4 (replicate 15 0) (refused 1)
    ∷ row 4 (from 1 3 1 0 64 0 ++ replicate 9 1) (refused 2)
    ∷ row 4 (from 1 3 1 0 64 0 ++ replicate 11 1) (refused 2)
    ∷ row 4 (from 65 3 1 0 64 0 ++ replicate 650 1) (refused 2)
    -- forms
    ∷ row 4 (from 0 3 3 0 64 0) (refused 3)
    ∷ row 4 (from 0 3 0 0 64 0) (refused 3)
    ∷ row 4 (from 0 3 1 1 64 0) (refused 3)
    ∷ row 4 (from 0 3 1 0 64 1) (refused 3)
    -- the sender, the view, the names
    ∷ row 4 (from 0 4 1 0 64 0) (refused 4)
    ∷ row 4 (from 0 3 1 0 65 0) (refused 5)
    ∷ row 4 (from 2 3 2 0 64 0 ++ (name 7 ++ (name 0 ++ (count 1 ++ count 1)))) (refused 6)
    -- the first failure is given
    ∷ row 4 (from 1 3 3 0 64 0) (refused 2)
    ∷ row 4 (from 0 4 3 0 64 0) (refused 3)
    ∷ row 4 (from 0 4 1 0 65 0) (refused 4)
    ∷ row 4 (from 1 3 1 0 65 0 ++ (name 0 ++ count 1)) (refused 5)
    -- accepted: no blocks, the most blocks, a count of zero, a name twice
    ∷ row 4 (from 0 3 1 0 64 0) (means (log_message (content 3 1000000 [])))
    ∷ row 5 (from 0 4 1 0 64 0) (means (log_message (content 4 1000000 [])))
    ∷ row 4 (from 0 3 2 0 64 0) (means (proposal_message (content 3 1000000 []) 0))
    ∷ row 4 (from 64 3 1 0 64 0 ++ replicate 640 1) (means (log_message (content 3 1000000 (replicate 64 (block 72340172838076673 257)))))
    ∷ row 4 (from 1 3 1 0 64 0 ++ (name 7 ++ count 0)) (means (log_message (content 3 1000000 (block 7 0 ∷ []))))
    ∷ row 4 (from 2 3 2 0 64 9 ++ (name 7 ++ (name 7 ++ (count 1 ++ count 2))))
    (means (proposal_message (content 3 1000000 (block 7 1 ∷ block 7 2 ∷ [])) 9))
    -- the lowest byte first
    ∷ row 4 (1 ∷ 3 ∷ 2 ∷ 0 ∷ 1 ∷ 2 ∷ 3 ∷ 0 ∷ 1 ∷ 2 ∷ 3 ∷ 4 ∷ 5 ∷ 6 ∷ 7 ∷ 8 ∷ 9 ∷ 10 ∷ 11 ∷ 12 ∷ 13 ∷ 14 ∷ 15 ∷ 16 ∷ 17 ∷ 18 ∷ [])
    (means (proposal_message (content 3 197121 (block 1157159078456920585 4625 ∷ [])) 578437695752307201))
    ∷ []

-- each row reads as it says
pub rows_read : map (λ (r : Row). read_of r.benches r.bytes) rows ≡ map (λ (r : Row). r.reading) rows
unfolding judged_by first_failure read_of meaning_in malformed any_of number_at numbers_at in_step
rows_read = refl
