-- What is held after the calls of a roll: the loop that makes them; the lines and demand 3 go through the same. Assumes nothing.
use Prim.Native.Nat.{ℕ, zero, suc, ◌+◌, ◌-◌, ◌*◌, ◌≤◌, ◌<◌}
use native.Mathlib.Omega.{arith}
use mathlib.Core.Bool.{Bool, true, false, false≢true}
use mathlib.Core.List.{List, [], ◌∷◌, ◌++◌, append_assoc}
use mathlib.Core.Path.{◌≡◌, refl, sym, ap, ◌∙◌}
use lib.ListN.{length, length-append}
use Rattle.message.specs.Numbers.{put}
use Rattle.message.proofs.PartLaws.{put_nil, put-append}
use Rattle.agreement.specs.Sets.{is_yes}
use Rattle.bench.specs.Calls.{Call, State}
use Rattle.demand.proofs.MachineLaws.{runs_nil, runs_cons, by_values}
use Rattle.run.specs.declared.Answered.{Answered}
use Rattle.demand.specs.Demand.{byValue, runs}
use Rattle.demand.specs.TheBench.{the_bench}
use Rattle.run.specs.Roll.{most_roll, most_events, events_of, length_at, bodies_place, misfits, call_at, calls_from}
use Rattle.run.specs.RollText.{line_of, step_of, lines_of}
use Rattle.run.specs.RollSteps.{line_room, answer_text, Puts, Remains, EventGives, Lies, told, LineFits, LineEnds, LinesFit}
use Rattle.run.specs.RollSteps.{Runs, Ahead}
use Rattle.run.specs.Held.{held_after, first_calls, body_from}
use Rattle.run.proofs.RollForm.{lies}

-- event i of the first k, in a roll of the right form with e events
pub lies_within : (s : List ℕ) (i a e : ℕ) → misfits s i a (e - i) ≡ false → (k : ℕ) → i < k → k ≤ e → e ≡ events_of s → Lies s i a
lies_within s i a e inv k h r q = lies s i a e q inv (omega arith)

-- ---- room for the lines

module _ (prints : Bool) (i p : ℕ) (text : List ℕ) (room : LinesFit prints i p text) where
  pub line_room_lem : (k e : ℕ) → i < k → k ≤ e → e ≤ most_events → LineFits prints p text
  line_room_lem k e h l few = record { room = λ t. let a = room.low t in let b = room.long t in omega arith }

  pub room_next : (q : ℕ) (m : List ℕ) → LineEnds prints p q → length m ≡ length text → LinesFit prints (i + 1) q m
  room_next q m f same = record {
    low = λ t. let a = room.low t in let b = f.short t in omega arith;
    long = λ t. let a = room.long t in omega arith;
  }

-- at first: in a text, and where no lines are asked for
pub room_first : (p : ℕ) (text : List ℕ) → p ≤ line_room → most_roll ≤ length text → LinesFit true 0 p text
room_first p text h k = record { low = λ t. omega arith; long = λ t. k }

pub room_silent : (p : ℕ) (text : List ℕ) → LinesFit false 0 p text
room_silent p text = record { low = λ t. absurd (false≢true t); long = λ t. absurd (false≢true t) }

-- ---- a line where lines are asked for

told-append : (prints : Bool) (xs ys : List ℕ) → told prints (xs ++ ys) ≡ told prints xs ++ told prints ys
told-append true xs ys = refl
told-append false xs ys = refl

-- ---- the calls, one after the other

calls_step : (s : List ℕ) (i a m : ℕ) → 0 < m → calls_from s i a m ≡ call_at s i a ∷ calls_from s (i + 1) (a + length_at s i) (m - 1)
unfolding calls_from
calls_step s i a m h = let e : m ≡ suc (m - 1) = omega arith in ap (calls_from s i a) e

lines_step : (x : State) (c : Call) (cs : List Call) → lines_of x (c ∷ cs) ≡ line_of c (step_of x c) ++ lines_of (step_of x c).held cs
unfolding lines_of
lines_step x c cs = refl

held_step : (x : State) (c : Call) (cs : List Call) → held_after x (c ∷ cs) ≡ held_after (step_of x c).held cs
unfolding held_after
held_step x c cs = refl

remains_next : (z : List ℕ) (r : ℕ) (l : List ℕ) (p : ℕ) (xs ys : List ℕ) (q : ℕ) (m : List ℕ) → Remains z r l p (xs ++ ys)
    → Puts xs p l q m → Remains z r m q ys
remains_next z r l p xs ys q m f g = record {
  place = f.place ∙ (rw length-append (omega (arith, g.place)));
  whole = f.whole ∙ put-append l p xs ys ∙ rw (g.text, g.place);
}

-- nothing is left to write
remains_none : (xs : List ℕ) (at : ℕ) (before text : List ℕ) (p : ℕ) (prints : Bool)
    → Remains (put before at xs) (at + length xs) text p (told prints []) → Puts xs at before p text
remains_none xs at before text p true f = record { place = omega (arith, f.place); text = sym (f.whole ∙ put_nil text p) }
remains_none xs at before text p false f = record { place = omega (arith, f.place); text = sym (f.whole ∙ put_nil text p) }

module _ (prints : Bool) (s : List ℕ) (k : ℕ) (x : State) (at : ℕ) (before : List ℕ) where
  pub ahead_start : (e : ℕ) → e ≡ events_of s → Ahead prints s k x at before 0 (4 + 4 * e) x at before
  ahead_start e q =
      let n : k - 0 ≡ k = omega arith in
      rw q (record { held = rw n; lines = rw n (record { place = refl; whole = refl }) })

  module _ (i a : ℕ) (y : State) (p : ℕ) (text : List ℕ) (rest : Ahead prints s k x at before i a y p text) where
    pub ahead_end : (room : LinesFit prints i p text) (e : ℕ) → k ≤ i → i ≤ k → k ≤ e → e ≤ most_events
        → Runs prints s k x at before y p text
    unfolding held_after lines_of calls_from
    ahead_end room e h l f few =
        let n : k - i ≡ 0 = omega arith in
        let g = rw n at rest.held in
        let t = rw n at rest.lines in
        record {
          left = sym g;
          lines = remains_none (told prints (lines_of x (first_calls s k))) at before text p prints t;
          short = λ u. let w = room.low u in omega arith;
        }

    pub ahead_next : i < k → (r : Answered) (z : State) → EventGives (call_at s i a) y r z
        → (q : ℕ) (m : List ℕ)
        → Puts (told prints (answer_text z.bench.decided (is_yes z.bench.parted) r)) p text q m → (w : ℕ) → w ≡ length_at s i
        → Ahead prints s k x at before (i + 1) (a + w) z q m
    ahead_next more r z g q m f w long =
        let n : k - i - 1 ≡ k - (i + 1) = omega arith in
        let call = call_at s i a in
        let later = calls_from s (i + 1) (a + length_at s i) (k - (i + 1)) in
        let then = (step_of y call).held in
        let here : calls_from s i a (k - i) ≡ call ∷ later = rw (calls_step s i a (k - i) (omega arith), n) in
        let whole : told prints (lines_of y (calls_from s i a (k - i))) ≡ told prints (line_of call (step_of y call)) ++ told prints
        (lines_of then later) =
        rw (here, lines_step y call later) (told-append prints (line_of call (step_of y call)) (lines_of then later)) in
        rw (long, g.left)
        (record {
          held = rest.held ∙ ap (held_after y) here ∙ held_step y call later;
          lines = remains_next _ _ text p (told prints (line_of call (step_of y call))) (told prints (lines_of then later)) q m
              (rw whole at rest.lines) (rw g.line at f);
        })

-- no lines were asked for: nothing is written
pub silent : (s : List ℕ) (k : ℕ) (x : State) (before : List ℕ) (y : State) (r : ℕ) (after : List ℕ)
    → Runs false s k x 0 before y r after → after ≡ before
silent s k x before y r after f = f.lines.text ∙ put_nil before 0

-- ---- where a body starts

body_step : (s : List ℕ) (i a m : ℕ) → 0 < m → body_from s i a m ≡ body_from s (i + 1) (a + length_at s i) (m - 1)
unfolding body_from
body_step s i a m h = let e : m ≡ suc (m - 1) = omega arith in ap (body_from s i a) e

pub body_start : (s : List ℕ) (e k : ℕ) → e ≡ events_of s → body_from s 0 (bodies_place s) k ≡ body_from s 0 (4 + 4 * e) (k - 0)
body_start s e k q = let n : k - 0 ≡ k = omega arith in rw (n, q)

module _ (z : ℕ) (s : List ℕ) (i a k : ℕ) (left : z ≡ body_from s i a (k - i)) where
  pub body_next : (m : ℕ) → i < k → m ≡ length_at s i → z ≡ body_from s (i + 1) (a + m) (k - (i + 1))
  body_next m h l =
      let n : k - i - 1 ≡ k - (i + 1) = omega arith in
      left ∙ body_step s i a (k - i) (omega arith) ∙ rw (l, n)

  pub body_end : k ≤ i → a ≡ z
  unfolding body_from
  body_end h = let n : k - i ≡ 0 = omega arith in sym (left ∙ rw n)

-- ---- the same state elsewhere

-- the lines of the calls after some are those of what these left
pub lines_after : (x : State) (cs ds : List Call) → lines_of x (cs ++ ds) ≡ lines_of x cs ++ lines_of (held_after x cs) ds
unfolding lines_of held_after
lines_after x [] ds = refl
lines_after x (c ∷ cs) ds =
    ap (λ (l : List ℕ). line_of c (step_of x c) ++ l) (lines_after (step_of x c).held cs ds)
    ∙ sym (append_assoc (line_of c (step_of x c)) (lines_of (step_of x c).held cs) (lines_of (held_after (step_of x c).held cs) ds))

-- the calls of a roll after its first k
calls_after : (s : List ℕ) (i a k m : ℕ) → calls_from s i a (k + m) ≡ calls_from s i a k ++ calls_from s (i + k) (body_from s i a k) m
unfolding calls_from body_from
calls_after s i a zero m = let e : 0 + m ≡ m = omega arith in let f : i + 0 ≡ i = omega arith in rw (e, f)
calls_after s i a (suc k) m =
    let e : suc k + m ≡ suc (k + m) = omega arith in
    let f : i + suc k ≡ i + 1 + k = omega arith in
    rw (e, f) (ap (λ (l : List Call). call_at s i a ∷ l) (calls_after s (i + 1) (a + length_at s i) k m))

pub held_runs : (x : State) (cs : List Call) → held_after x cs ≡ runs the_bench x (by_values cs)
unfolding held_after
held_runs x [] = sym (runs_nil the_bench x)
held_runs x (c ∷ cs) = held_runs (step_of x c).held cs ∙ sym (runs_cons the_bench x (record { way = byValue; what = c }) (by_values cs))
