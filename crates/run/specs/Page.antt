-- The page of a roll: what its bench holds after the first calls, as bytes for a tool that shows it (document 01, "Counting in one
-- agreement" and "Calendar of acts"). Assumes nothing.
use Rattle.std.specs.Prelude.{Option, Some, None, ℕ, zero, suc, ◌+◌, Bool, true, false, List, [], ◌∷◌, ◌++◌, ◌≡◌}
use Rattle.message.specs.Choice.{pick}
use Rattle.message.specs.Numbers.{part, put, bytes_for}
use Rattle.agreement.specs.Limits.{most_senders}
use Rattle.agreement.specs.Sets.{share, member, is_yes}
use Rattle.agreement.specs.Record.{Agreement}
use Rattle.agreement.specs.declared.Longest.{Longest}
use Rattle.bench.specs.Layout.{Lent}
use Rattle.bench.specs.Calendar.{view_of, place_in, act_at}
use Rattle.bench.specs.Calls.{State, core_of}
use Rattle.bench.specs.Record.{beat_of, Bench}
use Rattle.bench.specs.Support.{SupportGives}
use Rattle.bench.specs.declared.Counted.{Counted}
use Rattle.run.specs.Held.{nothing_shown}

-- ---- an agreement, 166 bytes; a byte is 1 for yes and 0 for no

abbrev pub flag : Bool → ℕ
flag t = share t 1

-- of the m senders from number i on: who is in the set
unfoldable pub flags_from : ℕ → ℕ → ℕ → List ℕ
flags_from set i zero = []
flags_from set i (suc m) = flag (member set i) ∷ flags_from set (i + 1) m

-- a set of senders, by their numbers
abbrev pub set_bytes : ℕ → List ℕ
set_bytes set = flags_from set 0 most_senders

-- the view in four bytes, lowest first; whether each snapshot was taken
unfoldable pub head_bytes : Agreement → List ℕ
head_bytes g = bytes_for 4 g.marks.view ++ (flag (is_yes g.marks.one.taken) ∷ flag (is_yes g.marks.two.taken) ∷ [])

-- V; E; snapshot one; snapshot two
unfoldable pub sets_bytes : Agreement → List ℕ
sets_bytes g =
    set_bytes g.marks.voters ++
    (set_bytes g.marks.equivocators ++ (set_bytes g.marks.one.senders ++ set_bytes g.marks.two.senders))

-- between them the blocks of each sender's log
unfoldable pub slot_bytes : Agreement → List ℕ
slot_bytes g = head_bytes g ++ (part g.lengths 0 most_senders ++ sets_bytes g)

-- ---- what an act now would read, 5 bytes

-- 1, the sender at whose place the log stands, and its number of blocks; zeros where there is none
abbrev pub grade_bytes : Option Longest → List ℕ
grade_bytes None = 0 ∷ 0 ∷ 0 ∷ []
grade_bytes (Some l) = 1 ∷ l.sender ∷ l.blocks ∷ []

-- then how many support it, and among how many senders
unfoldable pub read_bytes : Counted → List ℕ
read_bytes c = grade_bytes c.grade ++ (c.supporters ∷ c.senders ∷ [])

-- ---- the page: the agreement of the even view, that of the odd view, and what is read

unfoldable pub page_bytes : Bench → Counted → List ℕ
page_bytes b c = slot_bytes b.even ++ (slot_bytes b.odd ++ read_bytes c)

-- its length, whatever is held (PageLaws: page_length_lem)
abbrev pub page_length : ℕ
page_length = 337

-- what the act that ends the gathering of the record's beat would read
abbrev pub ReadsNow : State → Counted → Type 0
ReadsNow x c = SupportGives (core_of x) (view_of (beat_of x.bench)) (act_at (place_in (beat_of x.bench))) c

-- ---- the promise

-- The page of what is held stands at the front of the buffer, and all else there is as it was. At whose place the log read stands is not
-- fixed by the rules: the log of that many blocks at that sender's place is the one used (`reads`).
pub record Shows (x : State) (before after : List ℕ) : Type 0 where
  pub count : Counted
  pub reads : ReadsNow x count
  pub page : after ≡ put before 0 (page_bytes x.bench count)

-- Refused, everything is as it was, and the answer is 0; else names and counts are those held, too.
pub record GivesPage (refused : Bool) (x : State) (l : Lent) (before : List ℕ) (r : ℕ) (names counts after : List ℕ) : Type 0 where
  pub answered : r ≡ pick refused 0 page_length
  pub name_list : names ≡ pick refused l.names x.lent.names
  pub count_list : counts ≡ pick refused l.counts x.lent.counts
  pub kept : refused ≡ true → after ≡ before
  pub shown : refused ≡ false → Shows x before after

abbrev pub no_page : List ℕ → ℕ → Lent → List ℕ → Bool
no_page s k l before = nothing_shown page_length s k l before
