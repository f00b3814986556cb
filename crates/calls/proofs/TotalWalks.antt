-- The totals walked along: a turn and the end of each walk, and what writing the part past the old length comes to. Assumes nothing.
use Prim.Native.Nat.{ℕ, zero, suc, ◌+◌, ◌-◌, ◌*◌, ◌^◌, ◌≤◌, ◌<◌}
use native.Mathlib.Omega.{arith}
use mathlib.Core.Bool.{Bool, true, false, not, ◌||◌}
use mathlib.Core.List.{List, [], ◌∷◌, ◌++◌, append_assoc}
use mathlib.Core.Path.{◌≡◌, refl, sym, ap, ◌∙◌}
use Rattle.std.specs.Prelude.{Result, Ok, Err}
use borrow.Author.Tests.{eq-eqb, ne_eqb, lt-ltb, le-ltb}
use lib.Dec.{eqb, ltb}
use lib.ListN.{length, get_or, set, take, drop, length-set, length-append, length-drop, take-append-drop, drop_of_length-le}
use lib.Seq.{drop-cons, drop_at, drop-append-le, length-take-le, take_at}
use Rattle.message.specs.Choice.{pick}
use Rattle.message.specs.Numbers.{AllBelow, part, put}
use Rattle.message.specs.Logs.{is_prefix, counts_of}
use Rattle.message.specs.Store.{log_at}
use Rattle.message.proofs.PartLaws.{part_nil, part_step, part-append, part_below, part-put, length_part, put_nil, put_cons, put_front}
use Rattle.message.proofs.LogLaws.{prefix_iff, is_prefix_iff, length_counts, counts_append}
use Rattle.message.proofs.ListedLaws.{length_at_lem, counts_at}
use Rattle.bench.specs.Layout.{decided_place}
use Rattle.bench.specs.Totals.{totals_from, unlike, sum_of}
use Rattle.bench.specs.declared.Entry.{Entry}
use Rattle.bench.specs.declared.refusal.Refusal.{Refusal}
use Rattle.bench.specs.declared.refusal.Refusal.TheVariants.{NoEntry}
use Rattle.bench.proofs.TotalLaws.{totals_none, totals_more, totals_append, length_totals, sum_bound, alike, put-after}
use Rattle.bench.proofs.TotalSteps.{unlike_none, unlike_more, last_total}
use Rattle.calls.specs.TotalSteps.{decided_counts, Walkable, Writable, Extensible, entry_among}

-- ---- compared

-- z is the whole; i blocks of k are passed, and hold `sum` entries
pub record Summing (z : Bool) (counts totals : List ℕ) (k sum i : ℕ) : Type 0 where
  pub within : i ≤ k
  pub small : sum ≤ 65535 * i
  pub rest : z ≡ unlike (totals_from sum (part counts (decided_place + i) (k - i))) (drop i totals)

next_part : (l : List ℕ) (a i k : ℕ) → i < k → part l (a + i) (k - i) ≡ get_or l (a + i) 0 ∷ part l (a + (i + 1)) (k - (i + 1))
next_part l a i k h =
    let e : a + i + 1 ≡ a + (i + 1) = omega arith in
    let f : k - i - 1 ≡ k - (i + 1) = omega arith in
    part_step l (a + i) (k - i) (omega arith) ∙ (λ j. get_or l (a + i) 0 ∷ part l (e j) (f j))

next_drop : (l : List ℕ) (i : ℕ) → i < length l → drop i l ≡ get_or l i 0 ∷ drop (i + 1) l
next_drop l i h = let e : suc i ≡ i + 1 = omega arith in drop-cons l i 0 h ∙ ap (λ (j : ℕ). get_or l i 0 ∷ drop j l) e

module _ (z : Bool) (counts totals : List ℕ) (k sum i : ℕ) (w : Summing z counts totals k sum i)
    (a : Walkable counts totals k) (h : i < k) where
  abbrev through : ℕ
  through = sum + get_or counts (decided_place + i) 0

  abbrev later : Bool
  later = unlike (totals_from through (part counts (decided_place + (i + 1)) (k - (i + 1)))) (drop (i + 1) totals)

  turn : z ≡ (not (eqb (get_or totals i 0) through) || later)
  turn =
      let s = a.short in
      let r = a.total_room in
      let e = next_part counts decided_place i k h in
      let f = next_drop totals i (omega arith) in
      w.rest
      ∙ (λ j. unlike (totals_from sum (e j)) (f j))
      ∙ ap (λ (l : List ℕ). unlike l (get_or totals i 0 ∷ drop (i + 1) totals)) (totals_more sum (get_or counts (decided_place + i) 0) _)
      ∙ unlike_more through _ (get_or totals i 0) (drop (i + 1) totals)

  -- x is the next count
  module _ (x : ℕ) (q : x ≡ get_or counts (decided_place + i) 0) where
    same : sum + x ≡ through
    same = ap (λ (n : ℕ). sum + n) q

    pub sum_on : get_or counts (decided_place + i) 0 < 2 ^ 16 → get_or totals i 0 ≡ sum + x → Summing z counts totals k (sum + x) (i + 1)
    sum_on b e =
        let s = w.small in
        let f : get_or totals i 0 ≡ through = e ∙ same in
        rw q
        (record {
          within = omega arith;
          small = omega arith;
          rest = turn ∙ ap (λ (t : Bool). not t || later) (eq-eqb (get_or totals i 0) through f);
        })

    pub sum_off : (get_or totals i 0 ≡ sum + x → ⊥) → true ≡ z
    sum_off n =
        sym (turn ∙ ap (λ (t : Bool). not t || later) (ne_eqb (get_or totals i 0) through (λ f. n (f ∙ sym same))))

pub sum_end : (z : Bool) (counts totals : List ℕ) (k sum i : ℕ) → Summing z counts totals k sum i → k ≤ i → false ≡ z
sum_end z counts totals k sum i w h =
    let e : k - i ≡ 0 = omega arith in
    sym (w.rest
    ∙ ap (λ (j : ℕ). unlike (totals_from sum (part counts (decided_place + i) j)) (drop i totals)) e
    ∙ ap (λ (l : List ℕ). unlike (totals_from sum l) (drop i totals)) (part_nil counts (decided_place + i))
    ∙ ap (λ (l : List ℕ). unlike l (drop i totals)) (totals_none sum)
    ∙ unlike_none (drop i totals))

-- ---- found

-- z is the whole; the entry is not in the i blocks passed
pub record Seeking (z : Result Entry Refusal) (totals : List ℕ) (k e before i : ℕ) : Type 0 where
  pub within : i ≤ k
  pub low : before ≤ e
  pub last : before ≡ get_or (0 ∷ totals) i 0
  pub rest : z ≡ entry_among i before (part totals i (k - i)) e

pub among_more : (i before t : ℕ) (ts : List ℕ) (e : ℕ)
    → entry_among i before (t ∷ ts) e ≡ pick (ltb e t) (Ok (record { block = i; inside = e - before })) (entry_among (i + 1) t ts e)
unfolding entry_among
among_more i before t ts e = refl

pub among_none : (i before e : ℕ) → entry_among i before [] e ≡ Err NoEntry
unfolding entry_among
among_none i before e = refl

module _ (z : Result Entry Refusal) (totals : List ℕ) (k e before i : ℕ) (w : Seeking z totals k e before i) where
  module _ (h : i < k) where
    abbrev beyond : Result Entry Refusal
    beyond = entry_among (i + 1) (get_or totals i 0) (part totals (i + 1) (k - (i + 1))) e

    seek_turn : z ≡ pick (ltb e (get_or totals i 0)) (Ok (record { block = i; inside = e - before })) beyond
    seek_turn =
        let f : k - i - 1 ≡ k - (i + 1) = omega arith in
        w.rest
        ∙ ap (λ (l : List ℕ). entry_among i before l e)
        (part_step totals i (k - i) (omega arith) ∙ ap (λ (j : ℕ). get_or totals i 0 ∷ part totals (i + 1) j) f)
        ∙ among_more i before (get_or totals i 0) _ e

    pub seek_found : e < get_or totals i 0 → Ok (record { block = i; inside = e - before }) ≡ z
    seek_found l = sym (seek_turn ∙ ap (λ (t : Bool). pick t (Ok (record { block = i; inside = e - before })) beyond) (lt-ltb e (get_or totals i 0) l))

    pub seek_on : get_or totals i 0 ≤ e → Seeking z totals k e (get_or totals i 0) (i + 1)
    seek_on l =
        let f : suc i ≡ i + 1 = omega arith in
        record {
          within = omega arith;
          low = l;
          last = ap (λ (j : ℕ). get_or (0 ∷ totals) j 0) f;
          rest = seek_turn ∙ ap (λ (t : Bool). pick t (Ok (record { block = i; inside = e - before })) beyond) (le-ltb e (get_or totals i 0) l);
        }

  pub seek_end : k ≤ i → Err NoEntry ≡ z
  seek_end h =
      let f : k - i ≡ 0 = omega arith in
      sym (w.rest
      ∙ ap (λ (j : ℕ). entry_among i before (part totals i j) e) f
      ∙ ap (λ (l : List ℕ). entry_among i before l e) (part_nil totals i)
      ∙ among_none i before e)

-- ---- written

-- z is the whole; the totals of i blocks are written, and `sum` is the last of them
pub record Writing (z counts totals : List ℕ) (before sum i size : ℕ) : Type 0 where
  pub within : i ≤ length counts
  pub same : length totals ≡ size
  pub small : sum ≤ before + 65535 * i
  pub rest : z ≡ put totals i (totals_from sum (drop i counts))

module _ (z counts totals : List ℕ) (before sum i size : ℕ) (w : Writing z counts totals before sum i size) where
  pub write_on : i < length counts → (x : ℕ) → x ≡ get_or counts i 0 → get_or counts i 0 < 2 ^ 16
      → Writing z counts (set totals i (sum + x)) before (sum + x) (i + 1) size
  write_on h x q b =
      let s = w.small in
      rw q
      (record {
        within = omega arith;
        same = length-set totals i (sum + get_or counts i 0) ∙ w.same;
        small = omega arith;
        rest = w.rest
            ∙ ap (λ (l : List ℕ). put totals i (totals_from sum l)) (next_drop counts i h)
            ∙ ap (put totals i) (totals_more sum (get_or counts i 0) (drop (i + 1) counts))
            ∙ put_cons totals i (sum + get_or counts i 0) _;
      })

  pub write_end : length counts ≤ i → totals ≡ z
  write_end h =
      sym (w.rest
      ∙ ap (λ (l : List ℕ). put totals i (totals_from sum l)) (drop_of_length-le counts {i = i} h)
      ∙ ap (put totals i) (totals_none sum)
      ∙ put_nil totals i)

-- ---- the part past the old length

pub taken-part : (l : List ℕ) (a k : ℕ) → a + k ≤ length l → take k (drop a l) ≡ part l a k
taken-part l a zero h = sym (part_nil l a)
taken-part l a (suc k) h =
    let f : k ≡ suc k - 1 = omega arith in
    ap (take (suc k)) (next_drop l a (omega arith))
    ∙ ap (λ (m : List ℕ). get_or l a 0 ∷ m) (taken-part l (a + 1) k (omega arith) ∙ ap (part l (a + 1)) f)
    ∙ sym (part_step l a (suc k) (omega arith))

put_before : (l r xs : List ℕ) → length xs ≤ length l → put l 0 xs ++ r ≡ put (l ++ r) 0 xs
put_before l r xs h =
    let n = length-append l r in
    ap (λ (m : List ℕ). m ++ r) (put_front l xs h)
    ∙ append_assoc xs (drop (length xs) l) r
    ∙ ap (λ (m : List ℕ). xs ++ m) (sym (drop-append-le (length xs) l r h))
    ∙ sym (put_front (l ++ r) xs (omega arith))

-- what is written over a part is written over the whole
put-part : (l : List ℕ) (a k : ℕ) (xs : List ℕ) → a + k ≤ length l → length xs ≤ k
    → take a l ++ (put (take k (drop a l)) 0 xs ++ drop k (drop a l)) ≡ put l a xs
put-part l a k xs h f =
    let n = length-drop a l in
    let t = length-take-le k (drop a l) (omega arith) in
    let p = length-take-le a l (omega arith) in
    ap (λ (m : List ℕ). take a l ++ m)
    (put_before (take k (drop a l)) (drop k (drop a l)) xs (omega arith) ∙ ap (λ (m : List ℕ). put m 0 xs) (take-append-drop k (drop a l)))
    ∙ sym (put-after (take a l) (drop a l) xs)
    ∙ (λ i. put (take-append-drop a l i) (p i) xs)

module _ (counts totals : List ℕ) (old new : ℕ) (q : Extensible counts totals old new) (h : old < new) where
  -- the counts of the new blocks, and how many entries stand before them
  abbrev added : List ℕ
  added = take (decided_place + new - (decided_place + old)) (drop (decided_place + old) counts)

  added_is : added ≡ part counts (decided_place + old) (new - old)
  added_is =
      let s = q.walkable.short in
      let r = q.walkable.count_room in
      let e : decided_place + new - (decided_place + old) ≡ new - old = omega arith in
      ap (λ (k : ℕ). take k (drop (decided_place + old) counts)) e ∙ taken-part counts (decided_place + old) (new - old) (omega arith)

  before_is : (b : ℕ) → b ≡ get_or (0 ∷ totals) old 0 → b ≡ sum_of (decided_counts counts old)
  before_is b e =
      let (rest, f) = alike _ _ q.right in
      let n = length_part counts decided_place old in
      let z : 0 + sum_of (decided_counts counts old) ≡ sum_of (decided_counts counts old) = omega arith in
      e ∙ (λ i. get_or (0 ∷ f i) (sym n i) 0) ∙ last_total 0 (decided_counts counts old) rest ∙ z

  pub writable : (b : ℕ) → AllBelow (2 ^ 16) counts → b ≡ get_or (0 ∷ totals) old 0
      → Writable added (take (new - old) (drop old totals)) b
  writable b below e =
      let s = q.walkable.short in
      let r = q.walkable.total_room in
      let n = ap length added_is ∙ length_part counts (decided_place + old) (new - old) in
      let m = length-drop old totals in
      let t = length-take-le (new - old) (drop old totals) (omega arith) in
      let k = length_part counts decided_place old in
      let f = before_is b e in
      let g = sum_bound (decided_counts counts old) (part_below (2 ^ 16) counts decided_place old below) in
      record { room = omega arith; fits = omega arith }

  new_totals : drop old (totals_from 0 (decided_counts counts new))
      ≡ totals_from (sum_of (decided_counts counts old)) (part counts (decided_place + old) (new - old))
  new_totals =
      let e : old + (new - old) ≡ new = omega arith in
      let n = length_totals 0 (decided_counts counts old) ∙ length_part counts decided_place old in
      let later = part counts (decided_place + old) (new - old) in
      let z : 0 + sum_of (decided_counts counts old) ≡ sum_of (decided_counts counts old) = omega arith in
      ap (λ (k : ℕ). drop old (totals_from 0 (part counts decided_place k))) (sym e)
      ∙ ap (λ (l : List ℕ). drop old (totals_from 0 l)) (sym (part-append counts decided_place old (new - old)))
      ∙ ap (drop old) (totals_append 0 (decided_counts counts old) later)
      ∙ drop_at (totals_from 0 (decided_counts counts old)) _ old n
      ∙ ap (λ (b : ℕ). totals_from b later) z

  pub extended-by : (b : ℕ) (ys : List ℕ) → b ≡ get_or (0 ∷ totals) old 0
      → ys ≡ put (take (new - old) (drop old totals)) 0 (totals_from b added)
      → take old totals ++ (ys ++ drop (new - old) (drop old totals)) ≡ put totals old (drop old (totals_from 0 (decided_counts counts new)))
  extended-by b ys e f =
      let s = q.walkable.short in
      let r = q.walkable.total_room in
      let later = part counts (decided_place + old) (new - old) in
      let xs = totals_from (sum_of (decided_counts counts old)) later in
      let n : length xs ≡ new - old =
      length_totals (sum_of (decided_counts counts old)) later ∙ length_part counts (decided_place + old) (new - old) in
      let g : totals_from b added ≡ xs = λ i. totals_from (before_is b e i) (added_is i) in
      ap (λ (m : List ℕ). take old totals ++ (m ++ drop (new - old) (drop old totals)))
      (f ∙ ap (put (take (new - old) (drop old totals)) 0) g)
      ∙ put-part totals old (new - old) xs (omega arith) (omega arith)
      ∙ ap (put totals old) (sym new_totals)

-- nothing is written where no block is new
pub extended_none : (counts totals : List ℕ) (old new : ℕ) → new ≤ old
    → totals ≡ put totals old (drop old (totals_from 0 (decided_counts counts new)))
extended_none counts totals old new h =
    let n = length_totals 0 (decided_counts counts new) ∙ length_part counts decided_place new in
    sym (ap (put totals old) (drop_of_length-le (totals_from 0 (decided_counts counts new)) {i = old} (omega arith)) ∙ put_nil totals old)

-- ---- a decision that extends what stood

part_first : (l : List ℕ) (a j k : ℕ) → j ≤ k → part l a j ≡ take j (part l a k)
part_first l a j k h =
    let e : j + (k - j) ≡ k = omega arith in
    sym (take_at (part l a j) (part l (a + j) (k - j)) j (length_part l a j))
    ∙ ap (take j) (part-append l a j (k - j) ∙ ap (part l a) e)

-- the first counts are as they were
pub kept_counts : (names counts : List ℕ) (a k old : ℕ) → is_prefix (log_at names counts decided_place old) (log_at names counts a k) ≡ true
    → decided_place + k ≤ length counts
    → decided_counts (put counts decided_place (counts_of (log_at names counts a k))) old ≡ decided_counts counts old
kept_counts names counts a k old t room =
    let K = log_at names counts decided_place old in
    let L = log_at names counts a k in
    let (M, e) = (prefix_iff K L).0 ((is_prefix_iff K L).0 t) in
    let n = length_at_lem names counts decided_place old in
    let m = length_at_lem names counts a k in
    let c = length_counts L ∙ m in
    let d = length_counts K ∙ n in
    let both = sym (length-append K M) ∙ ap length e in
    let written = put counts decided_place (counts_of L) in
    let there : part written decided_place k ≡ counts_of L =
    ap (part written decided_place) (sym c) ∙ part-put counts decided_place (counts_of L) (omega arith) in
    part_first written decided_place old k (omega arith)
    ∙ ap (take old) (there ∙ ap counts_of (sym e) ∙ counts_append K M)
    ∙ take_at (counts_of K) (counts_of M) old d
    ∙ counts_at names counts decided_place old
