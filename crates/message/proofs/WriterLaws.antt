-- The parts of a message, written one after the other, are its one writing. Assumes nothing.
use Prim.Native.Nat.{ℕ, ◌+◌, ◌-◌, ◌*◌, ◌<◌, ◌≤◌}
use native.Mathlib.Omega.{arith}
use mathlib.Core.List.{List, [], ◌∷◌, ◌++◌, append_assoc, map}
use mathlib.Core.Bool.{Bool, true, false, ◌&&◌, and-eq-true_iff}
use mathlib.Core.Path.{◌≡◌, refl, sym, ap, ◌∙◌}
use borrow.Author.Tests.{leb-true, le-leb, lt-leb}
use lib.Dec.{leb}
use lib.ListN.{length, take, drop, length-append}
use Rattle.message.specs.Limits.{most_blocks, head_length, name_width, count_width, block_width}
use Rattle.message.specs.Numbers.{part, put, bytes_for, bytes_for_each}
use Rattle.message.specs.Logs.{Block, names_of, counts_of}
use Rattle.message.specs.Message.{Content, Meaning, log_kind, proposal_kind, message_bytes, bytes_of}
use Rattle.message.specs.Store.{log_at, within, room_for, Writes, write_of, log_from, write_log_of, proposal_from}
use Rattle.message.specs.Asks.{with_first, head_of, head_in, head_bytes, blocks_of, FirstOf, WritesFirst}
use Rattle.message.specs.declared.Head.{Head}
use Rattle.message.specs.declared.Message.{Message}
use Rattle.message.specs.declared.Message.TheVariants as messages
use borrow.Rule.Slice.PartMut.{put_mid}
use Rattle.message.proofs.LogLaws.{names_append, counts_append}
use Rattle.message.proofs.ListedLaws.{length_at_lem, names_at, counts_at, within_of}
use Rattle.message.proofs.PartLaws.{slice_part, slice_put, length_part, length-put, put-append, put_swap}
use Rattle.message.proofs.NumberLaws.{length_bytes, length_bytes_each, bytes_more}

-- ---- the head

-- four bytes, the view and the priority, one after the other
headed : (o o₀ o₁ : List ℕ) (k sender kind view priority : ℕ) → o₀ ≡ put o 0 (k ∷ sender ∷ kind ∷ 0 ∷ [])
    → o₁ ≡ put o₀ 4 (bytes_for 4 view)
    → put o₁ 8 (bytes_for 8 priority) ≡ put o 0 (head_of k sender kind view priority)
headed o o₀ o₁ k sender kind view priority e₀ e₁ =
    rw (e₁, e₀)
    (sym (put-append o 0 (k ∷ sender ∷ kind ∷ 0 ∷ []) (bytes_for 4 view ++ bytes_for 8 priority)
    ∙ put-append (put o 0 (k ∷ sender ∷ kind ∷ 0 ∷ [])) 4 (bytes_for 4 view) (bytes_for 8 priority)
    ∙ ap (λ (n : ℕ). put (put (put o 0 (k ∷ sender ∷ kind ∷ 0 ∷ [])) 4 (bytes_for 4 view)) (4 + n) (bytes_for 8 priority))
    (length_bytes 4 view)))

-- byte 2 of a message, and its priority
abbrev pub kind_of : Message → ℕ × ℕ
kind_of (messages.Log h) = (log_kind, 0)
kind_of (messages.Proposal h priority) = (proposal_kind, priority)

head_bytes_are : (m : Message) → head_of (head_in m).blocks (head_in m).sender (kind_of m).0 (head_in m).view (kind_of m).1 ≡ head_bytes m
head_bytes_are (messages.Log h) = refl
head_bytes_are (messages.Proposal h priority) = refl

pub head_put : (m : Message) (h : Head) (k : ℕ × ℕ) (o s o₁ o₂ : List ℕ) → head_length ≤ length o → h ≡ head_in m
    → k ≡ kind_of m
    → s ≡ h.blocks ∷ h.sender ∷ k.0 ∷ 0 ∷ []
    → o₁ ≡ put (put_mid 0 4 o s) 4 (bytes_for 4 h.view)
    → o₂ ≡ put o₁ 8 (bytes_for 8 k.1) → o₂ ≡ put o 0 (head_bytes m)
head_put m h k o s o₁ o₂ room is kind e f g =
    let start = slice_put o 0 4 s (ap (λ (t : List ℕ). length t) e) (omega arith) ∙ ap (put o 0) e in
    g ∙ headed o (put_mid 0 4 o s) o₁ h.blocks h.sender k.0 h.view k.1 start f
    ∙ (λ i. put o 0 (head_of (is i).blocks (is i).sender (kind i).0 (is i).view (kind i).1))
    ∙ ap (put o 0) (head_bytes_are m)

-- ---- numbers, and one more

-- the bytes of k numbers
numbers_length : (w k : ℕ) (ns : List ℕ) → length ns ≡ k → length (bytes_for_each w ns) ≡ w * k
numbers_length w k ns e = length_bytes_each w ns ∙ ap (λ (j : ℕ). w * j) e

-- ---- the whole message

message_written : (m : Content) (kind priority : ℕ) (o o₀ o₁ o₂ : List ℕ)
    → o₀ ≡ put o 0 (length m.log ∷ m.sender ∷ kind ∷ 0 ∷ (bytes_for 4 m.view ++ bytes_for 8 priority))
    → o₁ ≡ put o₀ head_length (bytes_for_each name_width (names_of m.log))
    → o₂ ≡ put o₁ (head_length + length (bytes_for_each name_width (names_of m.log))) (bytes_for_each count_width (counts_of m.log))
    → o₂ ≡ put o 0 (message_bytes m kind priority)
unfolding message_bytes
message_written m kind priority o o₀ o₁ o₂ e₀ e₁ e₂ =
    let head = length m.log ∷ m.sender ∷ kind ∷ 0 ∷ (bytes_for 4 m.view ++ bytes_for 8 priority) in
    let ns = bytes_for_each name_width (names_of m.log) in
    let cs = bytes_for_each count_width (counts_of m.log) in
    let l : length head ≡ head_length =
    let p = length-append (bytes_for 4 m.view) (bytes_for 8 priority) in let q = length_bytes 4 m.view in let r =
    length_bytes 8 priority in omega arith in
    let w : head ++ (ns ++ cs) ≡ length m.log ∷ m.sender ∷ kind ∷ 0 ∷ (bytes_for 4 m.view ++ (bytes_for 8 priority ++ (ns ++ cs))) =
    ap (λ (t : List ℕ). length m.log ∷ m.sender ∷ kind ∷ 0 ∷ t)
    (append_assoc (bytes_for 4 m.view) (bytes_for 8 priority) (ns ++ cs)) in
    rw (e₂, e₁, e₀)
    (sym (ap (put o 0) (sym w)
    ∙ put-append o 0 head (ns ++ cs)
    ∙ ap (λ (j : ℕ). put (put o 0 head) (0 + j) (ns ++ cs)) l
    ∙ put-append (put o 0 head) head_length ns cs))

log_put : (names counts : List ℕ) (a k sender view : ℕ) (o o' : List ℕ)
    → o' ≡ with_first o names counts a k k (head_of k sender log_kind view 0)
    → o' ≡ put o 0 (bytes_of (log_from names counts a k sender view))
unfolding bytes_of
log_put names counts a k sender view o o' e =
    let p = length_at_lem names counts a k in
    let q = names_at names counts a k in
    let r = counts_at names counts a k in
    let l = numbers_length name_width k (part names a k) (length_part names a k) in
    let begun = put o 0 (head_of k sender log_kind view 0) in
    message_written (record { sender = sender; view = view; log = log_at names counts a k }) log_kind 0 o begun
    (put begun head_length (bytes_for_each name_width (part names a k))) o' (rw p refl) (rw q refl) (rw (q, r, l) e)

-- one block more: its name is written past the names, its count past the counts
proposal_put : (names counts : List ℕ) (a k : ℕ) (block : Block) (sender view priority : ℕ) (o o₁ o₂ o₃ : List ℕ)
    → o₁ ≡ with_first o names counts a k (k + 1) (head_of (k + 1) sender proposal_kind view priority)
    → o₂ ≡ put o₁ (head_length + name_width * k) (bytes_for name_width block.name)
    → o₃ ≡ put o₂ (head_length + name_width * k + name_width + count_width * k) (bytes_for count_width block.count)
    → o₃ ≡ put o 0 (bytes_of (proposal_from names counts a k block sender view priority))
unfolding bytes_of names_of counts_of
proposal_put names counts a k block sender view priority o o₁ o₂ o₃ e₁ e₂ e₃ =
    let o₀ = put o 0 (head_of (k + 1) sender proposal_kind view priority) in
    let e : head_length + name_width * k + name_width + count_width * k ≡ head_length + name_width * (k + 1) + count_width * k = omega arith in
    let L = log_at names counts a k in
    let ns = bytes_for_each name_width (part names a k) in
    let cs = bytes_for_each count_width (part counts a k) in
    let x = bytes_for name_width block.name in
    let p : length (L ++ (block ∷ [])) ≡ k + 1 = length-append L (block ∷ []) ∙ ap (λ (j : ℕ). j + 1) (length_at_lem names counts a k) in
    let q : names_of (L ++ (block ∷ [])) ≡ part names a k ++ (block.name ∷ []) =
    names_append L (block ∷ []) ∙ ap (λ (t : List ℕ). t ++ (block.name ∷ [])) (names_at names counts a k) in
    let r : counts_of (L ++ (block ∷ [])) ≡ part counts a k ++ (block.count ∷ []) =
    counts_append L (block ∷ []) ∙ ap (λ (t : List ℕ). t ++ (block.count ∷ [])) (counts_at names counts a k) in
    let n : length (part names a k ++ (block.name ∷ [])) ≡ k + 1 =
    length-append (part names a k) (block.name ∷ []) ∙ ap (λ (j : ℕ). j + 1) (length_part names a k) in
    let l = numbers_length name_width (k + 1) (part names a k ++ (block.name ∷ [])) n in
    let named = put o₀ head_length (bytes_for_each name_width (part names a k ++ (block.name ∷ []))) in
    let w = length_bytes name_width block.name in
    let f : o₂ ≡ put named (head_length + name_width * (k + 1)) cs =
    e₂ ∙ ap (λ (t : List ℕ). put t (head_length + name_width * k) x) e₁
    ∙ sym (put_swap (put o₀ head_length ns) (head_length + name_width * k) x (head_length + name_width * (k + 1)) cs (omega arith))
    ∙ ap (λ (t : List ℕ). put t (head_length + name_width * (k + 1)) cs)
    (bytes_more name_width o₀ (put o₀ head_length ns) (put (put o₀ head_length ns) (head_length + name_width * k) x) (part names a k)
    head_length k block.name (length_part names a k) refl refl) in
    let g = bytes_more count_width named o₂ o₃ (part counts a k) (head_length + name_width * (k + 1)) k block.count (length_part counts a k) f
    (e₃ ∙ ap (λ (j : ℕ). put o₂ j (bytes_for count_width block.count)) e) in
    message_written (record { sender = sender; view = view; log = L ++ (block ∷ []) }) proposal_kind priority o o₀ named o₃ (rw p refl)
    (rw q refl) (rw (q, r, l) g)

-- ---- the head and the first blocks

room_long : (out names counts : List ℕ) (a k m : ℕ) → most_blocks < m → false ≡ room_for out names counts a k m
unfolding room_for
room_long out names counts a k m h = rw (lt-leb m most_blocks h)

module _ (out names counts : List ℕ) (a k : ℕ) (message : Message) (first : FirstOf k message) (m : ℕ) (is : m ≡ blocks_of message)
    (w : Bool) (e : w ≡ within names counts a k) where
  test : (t : Bool) → (w && leb (head_length + block_width * m) (length out)) ≡ t
      → t ≡ room_for out names counts a k (blocks_of message)
  unfolding room_for
  test t f = sym f ∙ rw (is, le-leb (blocks_of message) most_blocks first.few, e)

  pub first_not : (w && leb (head_length + block_width * m) (length out)) ≡ false
      → WritesFirst out names counts a k message false out
  first_not t = record { answered = test false t; buffer = refl }

  pub first_done : (o₀ o₁ o₂ : List ℕ) → (w && leb (head_length + block_width * m) (length out)) ≡ true
      → o₀ ≡ put out 0 (head_bytes message)
      → o₁ ≡ put o₀ head_length (bytes_for_each name_width (map (λ (x : ℕ). x) (take (a + k - a) (drop a names))))
      → o₂ ≡ put o₁ (head_length + name_width * m) (bytes_for_each count_width (map (λ (x : ℕ). x) (take (a + k - a) (drop a counts))))
      → WritesFirst out names counts a k message true o₂
  first_done o₀ o₁ o₂ t p q r =
      let s = within_of names counts a k (sym e ∙ ((and-eq-true_iff w (leb (head_length + block_width * m) (length out))).0 t).0) in
      record {
        answered = test true t;
        buffer = r ∙ rw (is, q, p, slice_part names a k s.in_names, slice_part counts a k s.in_counts);
      }

-- what is written has room for one block more
pub block_room : {out names counts : List ℕ} {a k : ℕ} {m : Message} {r : Bool} {o : List ℕ} → WritesFirst out names counts a k m r o
    → r ≡ true → head_length + block_width * blocks_of m ≤ length o
unfolding room_for
block_room {out} {names} {counts} {a} {k} {m} {r} {o} f t =
    let n = blocks_of m in
    let p = (and-eq-true_iff (leb n most_blocks) (within names counts a k && leb (head_length + block_width * n) (length out))).0
    (sym f.answered ∙ t) in
    let q = (and-eq-true_iff (within names counts a k) (leb (head_length + block_width * n) (length out))).0 p.1 in
    let h = leb-true (head_length + block_width * n) (length out) q.1 in
    let begun = put out 0 (head_bytes m) in
    let named = put begun head_length (bytes_for_each name_width (part names a k)) in
    let l : o ≡ with_first out names counts a k n (head_bytes m) = f.buffer ∙ rw t in
    let x = ap (λ (s : List ℕ). length s) l in
    let y = length-put named (head_length + name_width * n) (bytes_for_each count_width (part counts a k)) in
    let z = length-put begun head_length (bytes_for_each name_width (part names a k)) in
    let w = length-put out 0 (head_bytes m) in
    omega arith

-- ---- the answers

-- whatever the message: written where the test holds, and not where it does not
module _ (ok : Bool) (out : List ℕ) (m : Meaning) (z : Bool) (e : z ≡ ok) where
  message_done : (o : List ℕ) → z ≡ true → o ≡ put out 0 (bytes_of m) → Writes (write_of ok out m) true o
  unfolding write_of
  message_done o t q = rw (← e, t) (record { answered = refl; buffer = q })

  message_not : (o : List ℕ) → z ≡ false → o ≡ out → Writes (write_of ok out m) false o
  unfolding write_of
  message_not o t q = rw (← e, t) (record { answered = refl; buffer = q })

-- the head of the LOG, or of the PROPOSAL, of m blocks
abbrev pub head : ℕ → ℕ → ℕ → Head
head m sender view = record { view = view; sender = sender; blocks = m }

module _ (out names counts : List ℕ) (a k sender view : ℕ) where
  pub log_full : most_blocks < k → Writes (write_log_of out names counts a k sender view) false out
  log_full h = message_not (room_for out names counts a k k) out (log_from names counts a k sender view) false
      (room_long out names counts a k k h) out refl refl

  pub log_written : (r : Bool) (o : List ℕ) → WritesFirst out names counts a k (messages.Log (head k sender view)) r o
      → Writes (write_log_of out names counts a k sender view) r o
  log_written false o f =
      message_not (room_for out names counts a k k) out (log_from names counts a k sender view) false f.answered o refl f.buffer
  log_written true o f =
      message_done (room_for out names counts a k k) out (log_from names counts a k sender view) true f.answered o refl
      (log_put names counts a k sender view out o f.buffer)

module _ (out names counts : List ℕ) (a k name count sender view priority : ℕ) where
  abbrev made : Meaning
  made = proposal_from names counts a k (record { name = name; count = count }) sender view priority

  pub proposal_full : most_blocks ≤ k → Writes (write_of (room_for out names counts a k (k + 1)) out made) false out
  proposal_full h = message_not (room_for out names counts a k (k + 1)) out made false
      (room_long out names counts a k (k + 1) (omega arith)) out refl refl

  module _ (r : Bool) (o : List ℕ) (f : WritesFirst out names counts a k (messages.Proposal (head (k + 1) sender view) priority) r o) where
    pub proposal_not : r ≡ false → Writes (write_of (room_for out names counts a k (k + 1)) out made) false o
    proposal_not t = message_not (room_for out names counts a k (k + 1)) out made r f.answered o t (f.buffer ∙ rw t)

    pub proposal_done : (o₁ o₂ : List ℕ) → r ≡ true → o₁ ≡ put o (head_length + name_width * k) (bytes_for name_width name)
        → o₂ ≡ put o₁ (head_length + name_width * k + name_width + count_width * k) (bytes_for count_width count)
        → Writes (write_of (room_for out names counts a k (k + 1)) out made) true o₂
    proposal_done o₁ o₂ t p q =
        message_done (room_for out names counts a k (k + 1)) out made r f.answered o₂ t
        (proposal_put names counts a k (record { name = name; count = count }) sender view priority out o o₁ o₂ (f.buffer ∙ rw t) p q)
