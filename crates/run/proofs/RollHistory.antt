-- The lines of a roll are those worked out from its calls: the answers by the rules, D and the mark by the decisions. So what the lent
-- lists hold at first shows nowhere. So is where an entry stands. Assumes nothing.
use Prim.Native.Nat.{ℕ, zero, suc, ◌+◌, ◌^◌, ◌<◌}
use native.Mathlib.Omega.{arith}
use mathlib.Core.List.{List, [], ◌∷◌, ◌++◌}
use mathlib.Core.Bool.{true, false}
use mathlib.Core.Path.{◌≡◌, refl, sym, ap, subst, ◌∙◌}
use lib.Dec.{eqb}
use lib.ListN.{length, take, drop, length-take, length-drop, length-replicate}
use lib.Seq.{get_or-drop}
use Rattle.message.specs.Limits.{most_blocks}
use Rattle.message.specs.Numbers.{AllBelow, number_in}
use Rattle.message.proofs.TestLaws.{either}
use Rattle.message.proofs.PartLaws.{zeros_below}
use Rattle.message.proofs.NumberLaws.{number_in_below}
use Rattle.message.proofs.ListedLaws.{length_at_lem}
use Rattle.bench.specs.Terms.{Terms, nothing_stands, seat_of}
use Rattle.bench.specs.Layout.{most_bytes, decided_place, least_lent}
use Rattle.bench.specs.Calls.{Call, Answer, Reply, refused, done, took, acted, found, State, Opening, Typed, AllTyped, find}
use Rattle.bench.specs.Acts.{Stand}
use Rattle.bench.specs.History.{History, fresh, step, stand_in, answer, after_from, after}
use Rattle.bench.specs.ByRecord.{open_of, standing}
use Rattle.bench.proofs.HistoryLaws.{after_from_nil, after_from_cons, after_from_lem}
use Rattle.demand.specs.Demand.{byValue, OpenedAs}
use Rattle.demand.specs.TheBench.{the_bench}
use Rattle.run.specs.Roll.{benches_of, own_of, events_of, bodies_place, misshapen, mark_place, kind_at, length_at, begin_kind, receive_kind}
use Rattle.run.specs.Roll.{call_at, calls_from, calls_of}
use Rattle.run.specs.Held.{held_after, first_calls}
use Rattle.run.specs.EntryBytes.{entry_of}
use Rattle.run.specs.RollText.{terms_of, step_of, lines_of, lines_by, first_line, is_done, opened_text, fresh_lists, text_of}
use Rattle.demand.proofs.TheDemand.{bench_simulates}

-- D is the length of the log that stands
decided_length : (x : State) (s : Stand) → standing x ≡ s → x.bench.decided ≡ length s.log
decided_length x s e =
    sym (length_at_lem x.lent.names x.lent.counts decided_place x.bench.decided) ∙ ap (λ (t : Stand). length t.log) e

module _ (T : Terms) (own : ℕ) where
  lines_along : (x : State) (p : History) (cs : List Call) → bench_simulates.Rel (seat_of T own) x p → AllTyped cs
      → lines_of x cs ≡ lines_by (seat_of T own) p cs
  unfolding lines_of lines_by
  lines_along x p [] r t = refl
  lines_along x p (c ∷ cs) r t =
      let y = (step_of x c).held in
      let a = ap (λ (z : Answer). z.reply) (bench_simulates.same_answer (seat_of T own) byValue x p c r t.0) in
      let k = bench_simulates.keeps (seat_of T own) byValue x p c r t.0 in
      let s = bench_simulates.same_standing (seat_of T own) y (step (seat_of T own) p c) k in
      let d = decided_length y (stand_in nothing_stands (step (seat_of T own) p c).actions) s in
      let m = ap (λ (z : Stand). z.parted) s in
      let l = lines_along y (step (seat_of T own) p c) cs k t.1 in
      rw (a, d, m, l)

  lines_worked_out : (x : State) (cs : List Call) → OpenedAs the_bench T own x → AllTyped cs
      → lines_of x cs ≡ lines_by (seat_of T own) (fresh (seat_of T own)) cs
  lines_worked_out x cs o t = lines_along x (fresh (seat_of T own)) cs (bench_simulates.opens T own x o) t

  pub any_lists : (x y : State) (cs : List Call) → OpenedAs the_bench T own x → OpenedAs the_bench T own y → AllTyped cs
      → lines_of x cs ≡ lines_of y cs
  any_lists x y cs o q t = lines_worked_out x cs o t ∙ sym (lines_worked_out y cs q t)

  held_along : (x : State) (p : History) (cs : List Call) → bench_simulates.Rel (seat_of T own) x p → AllTyped cs
      → bench_simulates.Rel (seat_of T own) (held_after x cs) (after_from (seat_of T own) p cs)
  unfolding held_after
  held_along x p [] r t = subst (bench_simulates.Rel (seat_of T own) x) (sym (after_from_nil (seat_of T own) p)) r
  held_along x p (c ∷ cs) r t =
      subst (bench_simulates.Rel (seat_of T own) (held_after x (c ∷ cs))) (sym (after_from_cons (seat_of T own) p c cs))
      (held_along (step_of x c).held (step (seat_of T own) p c) cs
      (bench_simulates.keeps (seat_of T own) byValue x p c r t.0) t.1)

  -- a call after a list of calls answers what the history says
  answer-after : (x : State) (cs : List Call) (c : Call) → OpenedAs the_bench T own x → AllTyped cs → Typed c
      → (step_of (held_after x cs) c).answer ≡ answer (seat_of T own) (after (seat_of T own) cs) c
  answer-after x cs c o t u =
      let S = seat_of T own in
      let r = subst (bench_simulates.Rel S (held_after x cs)) (sym (after_from_lem S cs))
      (held_along x (fresh S) cs (bench_simulates.opens T own x o) t) in
      bench_simulates.same_answer S byValue (held_after x cs) (after S cs) c r u

-- ---- of a whole roll

take_below : (B k : ℕ) (l : List ℕ) → 0 < B → AllBelow B l → AllBelow B (take k l)
take_below B zero l h f i = h
take_below B (suc k) [] h f i = h
take_below B (suc k) (x ∷ l) h f zero = f zero
take_below B (suc k) (x ∷ l) h f (suc i) = take_below B k l h (λ j. f (suc j)) i

drop_below : (B k : ℕ) (l : List ℕ) → AllBelow B l → AllBelow B (drop k l)
drop_below B k l f i = rw get_or-drop (f (k + i))

is_done_lem : (r : Reply) → is_done r ≡ true → r ≡ done
is_done_lem (refused k) e = let z : ◌≡◌ {A = ℕ} 0 1 = cc in absurd (omega arith)
is_done_lem done e = refl
is_done_lem (took w) e = let z : ◌≡◌ {A = ℕ} 0 1 = cc in absurd (omega arith)
is_done_lem (acted made) e = let z : ◌≡◌ {A = ℕ} 0 1 = cc in absurd (omega arith)
is_done_lem (found block inside) e = let z : ◌≡◌ {A = ℕ} 0 1 = cc in absurd (omega arith)

module _ (s : List ℕ) (bytes : AllBelow 256 s) where
  number_fits : (w a : ℕ) → number_in w s a < 256 ^ w
  number_fits w a = number_in_below w s a bytes

  call_typed : (i a : ℕ) → Typed (call_at s i a)
  unfolding call_at
  call_typed i a =
      either (eqb (kind_at s i) begin_kind)
      (λ e. rw e (number_fits 4 a))
      (λ e.
      either (eqb (kind_at s i) receive_kind)
      (λ f. rw (e, f) (take_below 256 (length_at s i) (drop a s) (omega arith) (drop_below 256 a s bytes), part_short))
      (λ f. rw (e, f) (
        number_fits 8 a,
        number_fits 2 (a + 16),
        number_fits 8 (a + 8),
        zeros_below 256 most_bytes (omega arith),
        omega (arith, length-replicate {A = ℕ} most_bytes 0),
      )))
    where
      part_short : length (take (length_at s i) (drop a s)) < 2 ^ 64
      part_short = simp (length-take, length-drop) (omega (arith, number_fits 2 (mark_place i + 2)))

  calls_typed : (i a m : ℕ) → AllTyped (calls_from s i a m)
  unfolding calls_from
  calls_typed i a zero = tt
  calls_typed i a (suc m) = (call_typed i a, calls_typed (i + 1) (a + length_at s i) m)

  opened_so : is_done (open_of (benches_of s) (own_of s) fresh_lists).reply ≡ true
      → OpenedAs the_bench (terms_of s) (own_of s) (record { bench = (open_of (benches_of s) (own_of s) fresh_lists).bench; lent = fresh_lists })
  opened_so e = record {
    typed = record {
      n_fits = bytes 0;
      own_fits = bytes 1;
      names = (zeros_below (2 ^ 64) least_lent (omega arith), omega (arith, length-replicate {A = ℕ} least_lent 0));
      counts = (zeros_below (2 ^ 16) least_lent (omega arith), omega (arith, length-replicate {A = ℕ} least_lent 0));
      totals = (zeros_below (2 ^ 32) most_blocks (omega arith), omega (arith, length-replicate {A = ℕ} most_blocks 0));
    };
    given = done_gives (open_of (benches_of s) (own_of s) fresh_lists) e;
  }
    where
      done_gives : (o : Opening) → is_done o.reply ≡ true → o ≡ record { reply = done; bench = o.bench }
      done_gives o d = ap (λ (r : Reply). record { reply = r; bench = o.bench }) (is_done_lem o.reply d)

  pub text_worked_out : misshapen s ≡ false → is_done (open_of (benches_of s) (own_of s) fresh_lists).reply ≡ true
      → text_of s ≡ first_line (own_of s) (benches_of s) ++ lines_by (seat_of (terms_of s) (own_of s)) (fresh (seat_of (terms_of s) (own_of s)))
      (calls_of s)
  unfolding text_of opened_text
  text_worked_out e d =
      rw (
        e,
        d,
        lines_worked_out (terms_of s) (own_of s)
            (record { bench = (open_of (benches_of s) (own_of s) fresh_lists).bench; lent = fresh_lists }) (calls_of s) (opened_so d)
            (calls_typed 0 (bodies_place s) (events_of s)),
      )

  -- where an entry stands is what the decisions of the first k calls say
  pub entry_worked_out : is_done (open_of (benches_of s) (own_of s) fresh_lists).reply ≡ true → (k e : ℕ) → Typed (find e)
      → entry_of s k e
      ≡ (answer (seat_of (terms_of s) (own_of s)) (after (seat_of (terms_of s) (own_of s)) (first_calls s k)) (find e)).reply
  entry_worked_out d k e t =
      ap (λ (a : Answer). a.reply)
      (answer-after (terms_of s) (own_of s) (record { bench = (open_of (benches_of s) (own_of s) fresh_lists).bench; lent = fresh_lists })
      (first_calls s k) (find e) (opened_so d) (calls_typed 0 (bodies_place s) k) t)
