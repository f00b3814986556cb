-- Filing a LOG (document 01, "Receive"). Assumes nothing.
use Rattle.std.specs.Prelude.{ℕ, ◌+◌, ◌<◌, ◌≤◌, Bool, true, not, ◌||◌, List, ◌≡◌, leb, length}
use Rattle.message.specs.Choice.{pick}
use Rattle.message.specs.Numbers.{put}
use Rattle.message.specs.Logs.{same_log, names_of, counts_of}
use Rattle.message.specs.Message.{count_in, log_in}
use Rattle.message.specs.Store.{holds_log}
use Rattle.agreement.specs.Limits.{most_senders, span, place_of}
use Rattle.agreement.specs.Record.{Agreement, agreement_from, is_voter, is_equivocator, filed_log, lacks_room, heard_once, heard_twice}
use Rattle.agreement.specs.Record.{with_first, with_second}
use Rattle.agreement.specs.declared.Given.{Given}
use Rattle.agreement.specs.declared.Marks.{Marks}
use Rattle.agreement.specs.declared.Answer.{Answer}
use Rattle.agreement.specs.declared.Answer.TheVariants.{First, Second, Known}

-- the three answers to a message that is taken
pub data Word : Type 0 where
  first second known : Word

-- the code's answer, as document 01's word
abbrev pub word_of : Answer → Word
word_of First = first
word_of Second = second
word_of Known = known

-- Nothing can be filed: the sender has no place in the record, the lists have no room, or the bytes hold no log. The bench refuses such
-- messages and lists before it files (2, 4, 8), and judges view and window. Here nothing happens then.
abbrev pub unfit : List ℕ → List ℕ → ℕ → List ℕ → ℕ → Bool
unfit names counts base s i = leb most_senders i || (lacks_room names counts base || not (holds_log s))

-- Something can be filed: the same as facts (FilingLaws: fit, fit_not_unfit).
pub record Fit (names counts : List ℕ) (base : ℕ) (s : List ℕ) (i : ℕ) : Type 0 where
  pub few : i < most_senders
  pub in_names : base + span ≤ length names
  pub in_counts : base + span ≤ length counts
  pub holds : holds_log s ≡ true

-- What filing gives: the word, the agreement, and both lists.
pub record Filing : Type 0 where
  pub word : Word
  pub agreement : Agreement
  pub names : List ℕ
  pub counts : List ℕ

-- both lists stay as they are
abbrev pub unwritten : Word → Agreement → List ℕ → List ℕ → Filing
unwritten w g names counts = record { word = w; agreement = g; names = names; counts = counts }

-- One more LOG of a sender in V: "the same again" is known; with another log it is second, and the sender an equivocator. What is filed
-- stays.
abbrev pub again_of : Agreement → List ℕ → List ℕ → ℕ → List ℕ → ℕ → Filing
again_of g names counts base s i =
    pick (same_log (log_in s) (filed_log names counts base g.lengths i)) (unwritten known g names counts)
    (unwritten second (with_second g i) names counts)

-- The first LOG of a sender: filed at its place.
abbrev pub first_of : Agreement → List ℕ → List ℕ → ℕ → List ℕ → ℕ → Filing
first_of g names counts base s i = record {
  word = first;
  agreement = with_first g i (count_in s);
  names = put names (place_of base i) (names_of (log_in s));
  counts = put counts (place_of base i) (counts_of (log_in s));
}

-- The LOG s from sender i, in the agreement whose logs stand from `base` on. An equivocator stays one: "anything further" is known.
unfoldable pub file_of : Agreement → List ℕ → List ℕ → ℕ → List ℕ → ℕ → Filing
file_of g names counts base s i =
    pick (unfit names counts base s i || is_equivocator g i) (unwritten known g names counts)
    (pick (is_voter g i) (again_of g names counts base s i) (first_of g names counts base s i))

-- A call answered and left record and lists so.
pub record Files (t : Filing) (r : Given Answer Marks) (lengths names counts : List ℕ) : Type 0 where
  pub answered : word_of r.answer ≡ t.word
  pub marks : r.after ≡ t.agreement.marks
  pub length_list : lengths ≡ t.agreement.lengths
  pub name_list : names ≡ t.names
  pub count_list : counts ≡ t.counts

-- The marks after this answer to a LOG of sender i: they follow from it. A number that is no sender's changes nothing.
abbrev pub marked_by : Marks → Answer → ℕ → Marks
marked_by m First i = pick (leb most_senders i) m (heard_once m i)
marked_by m Second i = pick (leb most_senders i) m (heard_twice m i)
marked_by m Known i = m

-- Answered and left so where V and E are these, whatever view and snapshots.
pub record LogStored (voters equivocators : ℕ) (lengths names counts : List ℕ) (base : ℕ) (s : List ℕ) (i : ℕ) (a : Answer)
    (lengths' names' counts' : List ℕ) : Type 0 where
  pub whole : (m : Marks) → m.voters ≡ voters → m.equivocators ≡ equivocators
      → Files (file_of (agreement_from m lengths) names counts base s i)
      (record { answer = a; after = marked_by m a i }) lengths' names' counts'
