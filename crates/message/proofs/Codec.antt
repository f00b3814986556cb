-- Reading undoes writing and writing undoes reading: one meaning, "one writing" (document 01, "The message"). Assumes nothing.
use Prim.Native.Nat.{ℕ, zero, suc, ◌+◌, ◌*◌, ◌^◌, ◌≤◌, ◌<◌}
use native.Mathlib.Omega.{arith}
use mathlib.Core.Path.{◌≡◌, refl, sym, ap, subst, ◌∙◌}
use mathlib.Core.Logic.{inl, inr}
use mathlib.Core.List.{List, ◌∷◌, ◌++◌}
use lib.ListN.{length}
use Rattle.message.specs.Limits.{last_view, head_length, name_width, count_width, block_width}
use Rattle.message.specs.Numbers.{AllBelow, part, bytes_for, bytes_for_each}
use Rattle.message.specs.Logs.{names_of, counts_of}
use Rattle.message.specs.Message.{Content, any_zero, Writable, WritableMeaning, Meaning, log_message, proposal_message, log_kind}
use Rattle.message.specs.Message.{proposal_kind, message_bytes, bytes_of, count_in, sender_in, kind_in, byte_three, priority_in, log_in}
use Rattle.message.specs.Message.{content_in, meaning_in, means, read_of}
use Rattle.message.proofs.PartLaws.{part-append, part_all, append_below}
use Rattle.message.proofs.NumberLaws.{bytes_number, bytes_numbers, bytes_below, bytes_each_below, number_below, numbers_below}
use Rattle.message.proofs.WrittenFields.{length_written, count_written, sender_written, kind_written, three_written, view_written}
use Rattle.message.proofs.WrittenFields.{priority_written, log_written}
use Rattle.message.proofs.Acceptance.{accepted, accepts, KindFits, Form, form, of_form, names_read, counts_in_lem, length_blocks}
use Rattle.message.proofs.Acceptance.{meaning_log, meaning_proposal}

-- ---- what is written is read back

module _ (n : ℕ) (m : Content) (kind priority : ℕ) (w : Writable n m) where
  content_written : content_in (message_bytes m kind priority) ≡ m
  content_written =
      let s = sender_written m kind priority in
      let v = view_written m kind priority (let h = w.view in omega arith) in
      let l = log_written m kind priority w.names w.counts in
      λ i. record { sender = s i; view = v i; log = l i }

  form_written : priority < 2 ^ 64 → KindFits kind priority → Form n (message_bytes m kind priority)
  form_written p k =
      let s = message_bytes m kind priority in
      let c = count_written m kind priority in
      let e = content_written in
      record {
        few = let h = w.short in omega arith;
        sized = length_written m kind priority ∙ ap (λ (j : ℕ). head_length + block_width * j) (sym c);
        kind = elim k [
          | inl q ↦ inl (kind_written m kind priority ∙ q.0, priority_written m kind priority p ∙ q.1)
          | inr q ↦ inr (kind_written m kind priority ∙ q)
        ];
        three = three_written m kind priority;
        sender = subst (λ (x : Content). x.sender < n) (sym e) w.sender;
        view = subst (λ (x : Content). x.view ≤ last_view) (sym e) w.view;
        named = ap any_zero (sym (names_read s (count_in s)) ∙ ap (λ (x : Content). names_of x.log) e) ∙ w.named;
      }

-- A meaning within the limits is read from its writing.
pub read_written : (n : ℕ) (m : Meaning) → WritableMeaning n m → read_of n (bytes_of m) ≡ means m
unfolding bytes_of
read_written n (log_message m) w =
    let s = message_bytes m log_kind 0 in
    accepts n s (of_form n s (form_written n m log_kind 0 w (omega arith) (inl (refl, refl))))
    ∙ ap means (meaning_log s (kind_written m log_kind 0) ∙ ap log_message (content_written n m log_kind 0 w))
read_written n (proposal_message m priority) w =
    let s = message_bytes m proposal_kind priority in
    let c = content_written n m proposal_kind priority w.0 in
    let p = priority_written m proposal_kind priority w.1 in
    accepts n s (of_form n s (form_written n m proposal_kind priority w.0 w.1 (inr refl)))
    ∙ ap means (meaning_proposal s (kind_written m proposal_kind priority) ∙ (λ i. proposal_message (c i) (p i)))

-- ---- what is read is the one writing of its meaning

-- the fields of the bytes, written one after the other, are the bytes
rewritten : (s : List ℕ) → AllBelow 256 s → length s ≡ head_length + block_width * count_in s → byte_three s ≡ 0
    → message_bytes (content_in s) (kind_in s) (priority_in s) ≡ s
unfolding message_bytes part
rewritten s b e z =
    let k = count_in s in
    let l = length_blocks s k in
    let v = bytes_number 4 s 4 b in
    let p = bytes_number 8 s 8 b in
    let ns : bytes_for_each name_width (names_of (log_in s)) ≡ part s 16 (8 * k) =
    ap (bytes_for_each name_width) (names_read s k) ∙ bytes_numbers 8 s 16 k b in
    let cs : bytes_for_each count_width (counts_of (log_in s)) ≡ part s (head_length + name_width * k) (2 * k) =
    ap (bytes_for_each count_width) (counts_in_lem s k) ∙ bytes_numbers 2 s (head_length + name_width * k) k b in
    let t₁ = part-append s 16 (8 * k) (2 * k) in
    let t₂ = part-append s 8 8 (8 * k + 2 * k) in
    let t₃ = part-append s 4 4 (8 + (8 * k + 2 * k)) in
    let t₄ = part-append s 0 4 (4 + (8 + (8 * k + 2 * k))) in
    let n : 4 + (4 + (8 + (8 * k + 2 * k))) ≡ length s = omega arith in
    (λ i. l i ∷ sender_in s ∷ kind_in s ∷ sym z i ∷ (v i ++ (p i ++ (ns i ++ cs i))))
    ∙ ap (λ (t : List ℕ). part s 0 4 ++ (part s 4 4 ++ (part s 8 8 ++ t))) t₁
    ∙ ap (λ (t : List ℕ). part s 0 4 ++ (part s 4 4 ++ t)) t₂
    ∙ ap (λ (t : List ℕ). part s 0 4 ++ t) t₃
    ∙ t₄
    ∙ ap (part s 0) n
    ∙ part_all s

-- the kind and the priority that the meaning of the bytes is written with are those in the bytes
bytes_meaning : (s : List ℕ) → KindFits (kind_in s) (priority_in s)
    → bytes_of (meaning_in s) ≡ message_bytes (content_in s) (kind_in s) (priority_in s)
unfolding bytes_of
bytes_meaning s (inl k) = ap bytes_of (meaning_log s k.0) ∙ (λ i. message_bytes (content_in s) (sym k.0 i) (sym k.1 i))
bytes_meaning s (inr k) = ap bytes_of (meaning_proposal s k) ∙ (λ i. message_bytes (content_in s) (sym k i) (priority_in s))

-- Bytes that are accepted are the writing of what they mean.
pub written_read : (n : ℕ) (s : List ℕ) (m : Meaning) → AllBelow 256 s → read_of n s ≡ means m → bytes_of m ≡ s
written_read n s m b e =
    let a = accepted n s m e in
    let f = form n s a.0 in
    ap bytes_of (sym a.1) ∙ bytes_meaning s f.kind ∙ rewritten s b f.sized f.three

-- Two accepted messages of one meaning are the same bytes.
pub one_writing : (n : ℕ) (s t : List ℕ) (m : Meaning) → AllBelow 256 s → AllBelow 256 t → read_of n s ≡ means m → read_of n t ≡ means m
    → s ≡ t
one_writing n s t m b d e f = sym (written_read n s m b e) ∙ written_read n t m d f

-- ---- what is read may be written

writable_in : {n : ℕ} {s : List ℕ} → AllBelow 256 s → Form n s → Writable n (content_in s)
writable_in {n} {s} b f =
    let k = count_in s in
    record {
      sender = f.sender;
      view = f.view;
      short = let l = length_blocks s k in let h = f.few in omega arith;
      named = ap any_zero (names_read s k) ∙ f.named;
      names = subst (AllBelow (2 ^ 64)) (sym (names_read s k)) (numbers_below 8 s 16 k b);
      counts = subst (AllBelow (2 ^ 16)) (sym (counts_in_lem s k)) (numbers_below 2 s (head_length + name_width * k) k b);
    }

pub read_writable : (n : ℕ) (s : List ℕ) (m : Meaning) → AllBelow 256 s → read_of n s ≡ means m → WritableMeaning n m
read_writable n s m b e =
    let a = accepted n s m e in
    let f = form n s a.0 in
    let w = writable_in b f in
    subst (WritableMeaning n) a.1
    (elim f.kind [
      | inl k ↦ subst (WritableMeaning n) (sym (meaning_log s k.0)) w
      | inr k ↦ subst (WritableMeaning n) (sym (meaning_proposal s k)) (w, number_below 8 s 8 b)
    ])

-- ---- what may be written is bytes

written_below : (n : ℕ) (m : Content) (kind priority : ℕ) → n ≤ 256 → kind < 256 → Writable n m
    → AllBelow 256 (message_bytes m kind priority)
unfolding message_bytes
written_below n m kind priority h k w zero = let l = w.short in omega arith
written_below n m kind priority h k w (suc zero) = let l = w.sender in omega arith
written_below n m kind priority h k w (suc (suc zero)) = k
written_below n m kind priority h k w (suc (suc (suc zero))) = omega arith
written_below n m kind priority h k w (suc (suc (suc (suc i)))) =
    let ns = bytes_for_each name_width (names_of m.log) in
    append_below 256 (bytes_for 4 m.view) _ (bytes_below 4 m.view)
    (append_below 256 (bytes_for 8 priority) _ (bytes_below 8 priority)
    (append_below 256 ns _ (bytes_each_below 8 (names_of m.log)) (bytes_each_below 2 (counts_of m.log))))
    i

pub message_below : (n : ℕ) (m : Meaning) → n ≤ 256 → WritableMeaning n m → AllBelow 256 (bytes_of m)
unfolding bytes_of
message_below n (log_message m) h w = written_below n m log_kind 0 h (omega arith) w
message_below n (proposal_message m priority) h w = written_below n m proposal_kind priority h (omega arith) w.0
