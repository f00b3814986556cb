-- A volume, and the three premises of demand 3 (mission, demand 3; document 01, the words on it after the calendar). Each is no stronger
-- than its words. Assumes nothing.
use Rattle.std.specs.Prelude.{ℕ, zero, suc, ◌≤◌, ◌<◌, Bool, true, false, not, ◌&&◌, List, ◌≡◌}
use Rattle.message.specs.Message.{Content}
use Rattle.agreement.specs.Sets.{weigh}
use Rattle.bench.specs.Calendar.{last_view, view_beat, input_beat, snapshot_two_beat, close_beat, end_beat}
use Rattle.bench.specs.Terms.{Terms, Seat, seat_of, weight_of}
use Rattle.bench.specs.Calls.{Call}
use Rattle.bench.specs.History.{awake}
use Rattle.demand.specs.Places.{Begins, ActsAfter, MakesAfter, TakesAfter, Sends, With}

-- A volume is one instance of the protocol: all its benches have the same terms. A rule-keeper (an honest validator) is known by its own
-- number and has its list of calls; a number below n that no rule-keeper holds counts as a rule-breaker (a Byzantine validator).
pub record Volume : Type 0 where
  pub terms : Terms
  pub keeper : ℕ → Bool
  pub calls : ℕ → List Call

-- bench i as its Open gave it
abbrev pub seat : Volume → ℕ → Seat
seat W i = seat_of W.terms i

-- i is the number of a rule-keeper
abbrev pub Keeps : Volume → ℕ → Type 0
Keeps W i = (i < W.terms.n) × (W.keeper i ≡ true)

-- Delivery: "whatever LOG message a rule-keeper makes or passes on at beat b is with every other before that one acts at its first beat
-- after b". Its first beat b' is the first "in which it is awake"; a bench that never acts again is owed nothing. "once that window has
-- passed, nothing is owed": b' is at most the last beat of the LOG's window. It may have been handed over in any gathering with the view
-- open, an earlier one or one not acted in. A LOG under the bench's own number, which by the numbers it made itself, need not be handed
-- back to it.
abbrev pub Delivery : Volume → Type 0
Delivery W =
    (p q : ℕ) → Keeps W p → Keeps W q → (p ≡ q → ⊥)
    → (b : ℕ) (m : Content) → Sends (seat W p) (W.calls p) b m
    → (pre : List Call) (b' : ℕ) → ActsAfter (seat W q) (W.calls q) pre b'
    → b < b'
    → ((c : ℕ) → b < c → c < b' → awake (seat W q) (W.calls q) c ≡ false)
    → b' ≤ close_beat m.view
    → (m.sender ≡ q → ⊥)
    → With (seat W q) pre m

-- Numbers: "no LOG bears a rule-keeper's number unless it made it". Of LOGs that a rule-keeper takes, the maker itself included; what is
-- refused, or reaches rule-breakers alone, is free. It may have been made at any place of the maker's list.
abbrev pub Numbers : Volume → Type 0
Numbers W =
    (p q : ℕ) → Keeps W p → Keeps W q
    → (pre : List Call) (b : ℕ) (m : Content) → TakesAfter (seat W q) (W.calls q) pre b m
    → m.sender ≡ p
    → (pre' : List Call) × (b' : ℕ) × MakesAfter (seat W p) (W.calls p) pre' b' m

-- "awake at both beats 4v-1 and 4v+1 (beat 1 for view 0)"
abbrev pub awake_for : Seat → List Call → ℕ → Bool
awake_for S cs zero = awake S cs (input_beat 0)
awake_for S cs (suc u) = awake S cs (snapshot_two_beat u) && awake S cs (input_beat (suc u))

-- who counts towards the majority of view v, and who against it
abbrev pub counted : Volume → ℕ → ℕ → Bool
counted W v i = W.keeper i && awake_for (seat W i) (W.calls i) v

abbrev pub breaker : Volume → ℕ → Bool
breaker W i = not (W.keeper i)

-- Majority: those that count "outnumber the rule-breakers", for each view up to the last of which a rule-keeper begins any beat, so for
-- each v such that one begins a beat of view v or of a later view. The beats 4,000,004 to 4,000,006 are of no view. (Lists that all end
-- between a Begin of 4v and the first act at 4v+1 do not meet this for v, by the words; cut before 4v they do.)
abbrev pub Majority : Volume → Type 0
Majority W =
    (v i : ℕ) → Keeps W i → (b : ℕ) → Begins (seat W i) (W.calls i) b
    → view_beat v ≤ b → b ≤ end_beat last_view
    → weigh W.terms.n (weight_of W.terms) (breaker W) < weigh W.terms.n (weight_of W.terms) (counted W v)
