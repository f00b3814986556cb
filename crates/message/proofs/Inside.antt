-- What the public functions over the lists and the buffer promise where places and lengths are in range, as the layers above meet them.
-- Assumes nothing.
use Prim.Native.Nat.{ℕ, ◌+◌, ◌*◌, ◌^◌, ◌<◌, ◌≤◌}
use native.Mathlib.Omega.{arith}
use mathlib.Core.List.{List, [], ◌++◌, append-nil}
use mathlib.Core.Bool.{Bool, true, false}
use mathlib.Core.Path.{◌≡◌, sym, ap, ◌∙◌}
use borrow.Author.Tests.{le-leb}
use lib.ListN.{length, drop}
use Rattle.message.specs.Limits.{most_blocks, head_length, block_width}
use Rattle.message.specs.Numbers.{AllBelow, put}
use Rattle.message.specs.Logs.{Log, is_prefix, same_log, names_of, counts_of}
use Rattle.message.specs.Message.{Content, Meaning, log_message, proposal_message, said, means, read_of, log_of, log_kind, proposal_kind}
use Rattle.message.specs.Message.{message_bytes, bytes_of, count_in, priority_in, log_in, content_in}
use Rattle.message.specs.Store.{log_at, within, holds_log, prefix_at, matches_at, Stores, store_of, room_for, Writes, write_of}
use Rattle.message.proofs.TestLaws.{either}
use Rattle.message.proofs.PartLaws.{put_front, length-put}
use Rattle.message.proofs.Acceptance.{accepted, form}
use Rattle.message.proofs.WrittenFields.{sender_front, view_front, priority_front, log_front, length_message, count_message}
use Rattle.message.proofs.WrittenFields.{log_message_lem}

-- ---- the tests

pub prefix_inside : (names counts : List ℕ) (a x b y : ℕ) → within names counts a x ≡ true → within names counts b y ≡ true
    → prefix_at names counts a x b y ≡ is_prefix (log_at names counts a x) (log_at names counts b y)
unfolding prefix_at
prefix_inside names counts a x b y h g = rw (h, g)

pub matches_inside : (s names counts : List ℕ) (a x : ℕ) → holds_log s ≡ true → within names counts a x ≡ true
    → matches_at s names counts a x ≡ same_log (log_in s) (log_at names counts a x)
unfolding matches_at
matches_inside s names counts a x h g = rw (h, g)

-- what is no log within the lists matches nothing
pub matches_outside : (s names counts : List ℕ) (a x : ℕ) → within names counts a x ≡ false → matches_at s names counts a x ≡ false
unfolding matches_at
matches_outside s names counts a x e = either (holds_log s) (λ t. rw (t, e)) (λ t. rw t)

-- an accepted message holds its log
pub holds_accepted : (n : ℕ) (s : List ℕ) (m : Meaning) → read_of n s ≡ means m → holds_log s ≡ true
holds_accepted n s m e =
    let f = form n s (accepted n s m e).0 in
    let z = f.sized in
    rw (le-leb (count_in s) most_blocks f.few, le-leb (head_length + block_width * count_in s) (length s) (omega arith))

-- ---- storing and writing, where the test holds: answered true, and the lists hold the log, the buffer starts with the message

pub stored_inside : (ok : Bool) (names counts : List ℕ) (a : ℕ) (L : Log) (r : Bool) (ns cs : List ℕ) → ok ≡ true
    → Stores (store_of ok names counts a L) r ns cs
    → (r ≡ true) × ((ns ≡ put names a (names_of L)) × (cs ≡ put counts a (counts_of L)))
unfolding store_of
stored_inside ok names counts a L r ns cs e t =
    let u : Stores (store_of true names counts a L) r ns cs = rw e at t in (u.answered, (u.name_list, u.count_list))

pub room_yes : (out names counts : List ℕ) (a k m : ℕ) → m ≤ most_blocks → within names counts a k ≡ true
    → head_length + block_width * m ≤ length out
    → room_for out names counts a k m ≡ true
unfolding room_for
room_yes out names counts a k m h w g = rw (le-leb m most_blocks h, w, le-leb (head_length + block_width * m) (length out) g)

pub written_inside : (ok : Bool) (out : List ℕ) (m : Meaning) (r : Bool) (o : List ℕ) → ok ≡ true → Writes (write_of ok out m) r o
    → (r ≡ true) × (o ≡ put out 0 (bytes_of m))
unfolding write_of
written_inside ok out m r o e t = let u : Writes (write_of true out m) r o = rw e at t in (u.answered, u.buffer)

-- ---- a message at the front of a buffer holds its log

module _ (out : List ℕ) (m : Meaning) (room : length (bytes_of m) ≤ length out) where
  pub count_made : count_in (put out 0 (bytes_of m)) ≡ length (log_of m)
  count_made = ap count_in (put_front out (bytes_of m) room) ∙ count_message m (drop (length (bytes_of m)) out)

  holds_made : length (log_of m) ≤ most_blocks → holds_log (put out 0 (bytes_of m)) ≡ true
  holds_made h =
      let l = length_message m in
      let p = length-put out 0 (bytes_of m) in
      let c = count_made in
      rw (
        le-leb (count_in (put out 0 (bytes_of m))) most_blocks (omega arith),
        le-leb (head_length + block_width * count_in (put out 0 (bytes_of m))) (length (put out 0 (bytes_of m))) (omega arith),
      )

  log_made : AllBelow (2 ^ 64) (names_of (log_of m)) → AllBelow (2 ^ 16) (counts_of (log_of m)) → log_in (put out 0 (bytes_of m)) ≡ log_of m
  log_made n c = ap log_in (put_front out (bytes_of m) room) ∙ log_message_lem m (drop (length (bytes_of m)) out) n c

-- ---- and says of it what its bytes alone say: a made message is filed from the buffer it was written to

count_alone : (m : Meaning) → count_in (bytes_of m) ≡ length (log_of m)
count_alone m = ap count_in (sym (append-nil (bytes_of m))) ∙ count_message m []

module _ (out : List ℕ) (m : Meaning) (room : length (bytes_of m) ≤ length out) where
  pub same_count : count_in (put out 0 (bytes_of m)) ≡ count_in (bytes_of m)
  same_count = count_made out m room ∙ sym (count_alone m)

  pub same_holds : length (log_of m) ≤ most_blocks → holds_log (put out 0 (bytes_of m)) ≡ holds_log (bytes_of m)
  same_holds h =
      let c = count_alone m in
      let l = length_message m in
      holds_made out m room h
      ∙ sym (rw (
        le-leb (count_in (bytes_of m)) most_blocks (omega arith),
        le-leb (head_length + block_width * count_in (bytes_of m)) (length (bytes_of m)) (omega arith),
      ))

  pub same_log_lem : AllBelow (2 ^ 64) (names_of (log_of m)) → AllBelow (2 ^ 16) (counts_of (log_of m))
      → log_in (put out 0 (bytes_of m)) ≡ log_in (bytes_of m)
  same_log_lem n c = log_made out m room n c ∙ sym (ap log_in (sym (append-nil (bytes_of m))) ∙ log_message_lem m [] n c)

-- ---- and its whole content is read back from there, and a PROPOSAL's priority

content_front : (m : Content) (kind priority : ℕ) (r : List ℕ) → m.view < 256 ^ 4 → AllBelow (2 ^ 64) (names_of m.log)
    → AllBelow (2 ^ 16) (counts_of m.log)
    → content_in (message_bytes m kind priority ++ r) ≡ m
content_front m kind priority r h n c =
    let s = sender_front m kind priority r in
    let v = view_front m kind priority r h in
    let l = log_front m kind priority r n c in
    λ i. record { sender = s i; view = v i; log = l i }

content_message : (m : Meaning) (r : List ℕ) → (said m).view < 256 ^ 4 → AllBelow (2 ^ 64) (names_of (log_of m))
    → AllBelow (2 ^ 16) (counts_of (log_of m))
    → content_in (bytes_of m ++ r) ≡ said m
unfolding bytes_of
content_message (log_message m) r = content_front m log_kind 0 r
content_message (proposal_message m priority) r = content_front m proposal_kind priority r

pub content_made_lem : (out : List ℕ) (m : Meaning) → length (bytes_of m) ≤ length out
    → (said m).view < 256 ^ 4 → AllBelow (2 ^ 64) (names_of (log_of m)) → AllBelow (2 ^ 16) (counts_of (log_of m))
    → content_in (put out 0 (bytes_of m)) ≡ said m
content_made_lem out m room h n c = ap content_in (put_front out (bytes_of m) room) ∙ content_message m (drop (length (bytes_of m)) out) h n c

pub priority_made : (out : List ℕ) (m : Content) (priority : ℕ) → length (bytes_of (proposal_message m priority)) ≤ length out
    → priority < 256 ^ 8
    → priority_in (put out 0 (bytes_of (proposal_message m priority))) ≡ priority
unfolding bytes_of
priority_made out m priority room h =
    let s = message_bytes m proposal_kind priority in
    ap priority_in (put_front out s room) ∙ priority_front m proposal_kind priority (drop (length s) out) h
