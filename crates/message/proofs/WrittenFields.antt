-- The fields of a message that was written are read back, also where the message stands at the front of a longer list. Assumes nothing.
use Prim.Native.Nat.{ℕ, ◌+◌, ◌*◌, ◌^◌, ◌<◌}
use native.Mathlib.Omega.{arith}
use mathlib.Core.Path.{◌≡◌, refl, sym, ap, ◌∙◌}
use mathlib.Core.List.{List, [], ◌++◌, append_assoc, append-nil}
use lib.ListN.{length, drop, length-append}
use lib.Seq.{drop_at, drop-drop}
use Rattle.message.specs.Limits.{head_length, name_width, count_width, block_width}
use Rattle.message.specs.Numbers.{AllBelow, numbers_at, bytes_for, bytes_for_each}
use Rattle.message.specs.Logs.{in_step, names_of, counts_of}
use Rattle.message.specs.Message.{Content, log_of, Meaning, log_message, proposal_message, log_kind, proposal_kind, message_bytes, bytes_of}
use Rattle.message.specs.Message.{count_in, sender_in, kind_in, byte_three, view_in, priority_in, blocks_in, log_in}
use Rattle.message.proofs.LogLaws.{length_names, length_counts, log_in_step}
use Rattle.message.proofs.NumberLaws.{length_bytes, length_bytes_each, number_after, numbers_after}

-- ---- the length

module _ (m : Content) (kind priority : ℕ) where
  pub length_written : length (message_bytes m kind priority) ≡ head_length + block_width * length m.log
  unfolding message_bytes
  length_written =
      let a = length_bytes 4 m.view in
      let b = length_bytes 8 priority in
      let c = length_bytes_each 8 (names_of m.log) in
      let d = length_bytes_each 2 (counts_of m.log) in
      let e = length_names m.log in
      let f = length_counts m.log in
      simp length-append (omega arith)

-- ---- at the front of a longer list

module _ (m : Content) (kind priority : ℕ) (r : List ℕ) where
  from_view : drop 4 (message_bytes m kind priority ++ r) ≡ bytes_for 4 m.view ++
      (bytes_for 8 priority ++ (bytes_for_each name_width (names_of m.log) ++ (bytes_for_each count_width (counts_of m.log) ++ r)))
  unfolding message_bytes
  from_view = simp append_assoc

  from_priority : drop 8 (message_bytes m kind priority ++ r) ≡ bytes_for 8 priority ++
      (bytes_for_each name_width (names_of m.log) ++ (bytes_for_each count_width (counts_of m.log) ++ r))
  from_priority = sym (drop-drop 4 4 (message_bytes m kind priority ++ r)) ∙ ap (drop 4) from_view
      ∙ drop_at (bytes_for 4 m.view) _ 4 (length_bytes 4 m.view)

  from_names_lem : drop 16 (message_bytes m kind priority ++ r) ≡ bytes_for_each name_width (names_of m.log) ++
      (bytes_for_each count_width (counts_of m.log) ++ r)
  from_names_lem = sym (drop-drop 8 8 (message_bytes m kind priority ++ r)) ∙ ap (drop 8) from_priority
      ∙ drop_at (bytes_for 8 priority) _ 8 (length_bytes 8 priority)

  from_counts_lem : drop (head_length + name_width * length m.log) (message_bytes m kind priority ++ r) ≡ bytes_for_each count_width
      (counts_of m.log) ++ r
  from_counts_lem =
      let k = length m.log in
      sym (drop-drop (8 * k) 16 (message_bytes m kind priority ++ r))
      ∙ ap (drop (8 * k)) from_names_lem
      ∙ drop_at (bytes_for_each name_width (names_of m.log)) _ (8 * k)
      (length_bytes_each 8 (names_of m.log) ∙ ap (λ (j : ℕ). 8 * j) (length_names m.log))

  count_front : count_in (message_bytes m kind priority ++ r) ≡ length m.log
  unfolding message_bytes
  count_front = refl

  pub sender_front : sender_in (message_bytes m kind priority ++ r) ≡ m.sender
  unfolding message_bytes
  sender_front = refl

  kind_front : kind_in (message_bytes m kind priority ++ r) ≡ kind
  unfolding message_bytes
  kind_front = refl

  three_front : byte_three (message_bytes m kind priority ++ r) ≡ 0
  unfolding message_bytes
  three_front = refl

  pub view_front : m.view < 256 ^ 4 → view_in (message_bytes m kind priority ++ r) ≡ m.view
  view_front h = number_after 4 m.view (message_bytes m kind priority ++ r) _ 4 from_view h

  pub priority_front : priority < 256 ^ 8 → priority_in (message_bytes m kind priority ++ r) ≡ priority
  priority_front h = number_after 8 priority (message_bytes m kind priority ++ r) _ 8 from_priority h

  pub log_front : AllBelow (2 ^ 64) (names_of m.log) → AllBelow (2 ^ 16) (counts_of m.log)
      → log_in (message_bytes m kind priority ++ r) ≡ m.log
  log_front hn hc =
      let s = message_bytes m kind priority ++ r in
      let k = length m.log in
      let a : numbers_at name_width s 16 k ≡ names_of m.log =
      ap (numbers_at name_width s 16) (sym (length_names m.log)) ∙ numbers_after 8 (names_of m.log) s _ 16 from_names_lem hn in
      let b : numbers_at count_width s (head_length + name_width * k) k ≡ counts_of m.log =
      ap (numbers_at count_width s (head_length + name_width * k)) (sym (length_counts m.log))
      ∙ numbers_after 2 (counts_of m.log) s r (head_length + name_width * k) from_counts_lem hc in
      ap (blocks_in s) count_front ∙ (λ i. in_step (a i) (b i)) ∙ log_in_step m.log

-- ---- the same where nothing follows

module _ (m : Content) (kind priority : ℕ) where
  alone : (f : List ℕ → ℕ) (x : ℕ) → f (message_bytes m kind priority ++ []) ≡ x → f (message_bytes m kind priority) ≡ x
  alone f x e = ap f (sym (append-nil (message_bytes m kind priority))) ∙ e

  pub count_written : count_in (message_bytes m kind priority) ≡ length m.log
  count_written = alone count_in _ (count_front m kind priority [])

  pub sender_written : sender_in (message_bytes m kind priority) ≡ m.sender
  sender_written = alone sender_in _ (sender_front m kind priority [])

  pub kind_written : kind_in (message_bytes m kind priority) ≡ kind
  kind_written = alone kind_in _ (kind_front m kind priority [])

  pub three_written : byte_three (message_bytes m kind priority) ≡ 0
  three_written = alone byte_three _ (three_front m kind priority [])

  pub view_written : m.view < 256 ^ 4 → view_in (message_bytes m kind priority) ≡ m.view
  view_written h = alone view_in _ (view_front m kind priority [] h)

  pub priority_written : priority < 256 ^ 8 → priority_in (message_bytes m kind priority) ≡ priority
  priority_written h = alone priority_in _ (priority_front m kind priority [] h)

  pub log_written : AllBelow (2 ^ 64) (names_of m.log) → AllBelow (2 ^ 16) (counts_of m.log)
      → log_in (message_bytes m kind priority) ≡ m.log
  log_written hn hc = ap log_in (sym (append-nil (message_bytes m kind priority))) ∙ log_front m kind priority [] hn hc

pub length_message : (m : Meaning) → length (bytes_of m) ≡ head_length + block_width * length (log_of m)
unfolding bytes_of
length_message (log_message m) = length_written m log_kind 0
length_message (proposal_message m priority) = length_written m proposal_kind priority

pub count_message : (m : Meaning) (r : List ℕ) → count_in (bytes_of m ++ r) ≡ length (log_of m)
unfolding bytes_of
count_message (log_message m) r = count_front m log_kind 0 r
count_message (proposal_message m priority) r = count_front m proposal_kind priority r

pub log_message_lem : (m : Meaning) (r : List ℕ) → AllBelow (2 ^ 64) (names_of (log_of m)) → AllBelow (2 ^ 16) (counts_of (log_of m))
    → log_in (bytes_of m ++ r) ≡ log_of m
unfolding bytes_of
log_message_lem (log_message m) r = log_front m log_kind 0 r
log_message_lem (proposal_message m priority) r = log_front m proposal_kind priority r
