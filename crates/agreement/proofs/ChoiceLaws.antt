-- The vote: what is chosen fits and has a place in the record, no sender that fits is better, and none is chosen exactly where none fits;
-- and the walk along the senders. Assumes nothing.
use Prim.Native.Nat.{ℕ, zero, suc, ◌+◌, ◌-◌, ◌≤◌, ◌<◌}
use native.Mathlib.Decide.{dec_le}
use native.Mathlib.Omega.{arith}
use mathlib.Core.List.{List}
use mathlib.Core.Bool.{Bool, true, false, not, ◌&&◌, and_assoc, false≢true}
use mathlib.Core.Option.{Option, some, none, some-ne-none, some-injective, none-ne-some}
use mathlib.Core.Logic.{inl, inr, ◌↔◌}
use mathlib.Core.Path.{◌≡◌, refl, sym, ap, subst, ◌∙◌}
use borrow.Author.Tests.{ltb-true, ltb-false}
use lib.Dec.{ltb}
use lib.ListN.{get_or}
use Rattle.std.specs.Prelude as std
use Rattle.std.specs.Prelude.{Some, None}
use Rattle.message.specs.Choice.{pick}
use Rattle.message.specs.Store.{prefix_at}
use Rattle.message.proofs.TestLaws.{either}
use Rattle.agreement.specs.Limits.{most_senders, place_of}
use Rattle.agreement.specs.Record.{lacks_room}
use Rattle.agreement.specs.Sets.{member}
use Rattle.agreement.specs.Steps.{SetOf, Taken, beats, Contest}
use Rattle.agreement.specs.Proposals.{Proposals, proposals_from, fits, NotBelow, Best, better, if_fits, best_of, choice_of, chosen}
use Rattle.agreement.specs.Proposals.{HasPlace, Chooses}
use Rattle.agreement.specs.declared.Shown.{Shown}
use Rattle.agreement.proofs.MaskLaws.{member_zero}
use Rattle.agreement.proofs.MembersLaws.{other, rest_as, still_in}

-- ---- the better of two, as the code finds it

-- a sender that is the best so far has a place
pub best_place : (best : std.Option ℕ) (j : ℕ) → HasPlace best → best ≡ Some j → j < most_senders
best_place best j w e = rw e at w

wins : (p : ℕ → ℕ) (o : Option ℕ) (i : ℕ) → beats p o i ≡ true → better p o i ≡ some i
wins p none i h = refl
wins p (some j) i h = rw h refl

loses : (p : ℕ → ℕ) (t : Bool) (o : Option ℕ) (i : ℕ) → beats p o i ≡ false → if_fits t p o i ≡ o
loses p true none i h = absurd (false≢true (sym h))
loses p true (some j) i h = rw h refl
loses p false o i h = refl

module _ (lengths priorities names counts : List ℕ) (base a k : ℕ) (best : std.Option ℕ) (i : ℕ) (c : Contest best i) where
  abbrev prior : ℕ → ℕ
  prior j = get_or priorities j 0

  -- the best to i, where the lock is a prefix of its log or not
  abbrev To : std.Option ℕ → Type 0
  To z = Chooses (if_fits (prefix_at names counts a k (place_of base i) (get_or lengths i 0)) prior (chosen best) i) z

  pub best_loses : (r : Bool) → r ≡ beats prior (chosen best) i → r ≡ false → To best
  best_loses r f n =
      record {
        sender = sym
            (loses prior (prefix_at names counts a k (place_of base i) (get_or lengths i 0)) (chosen best) i (sym f ∙ n));
        place = c.place;
      }

  module _ (x : Bool) (y : ℕ) (s : y ≡ get_or lengths i 0) (e : x ≡ prefix_at names counts a k (place_of base i) y) where
    found : prefix_at names counts a k (place_of base i) (get_or lengths i 0) ≡ x
    found = sym (e ∙ ap (prefix_at names counts a k (place_of base i)) s)

    pub best_wins : (r : Bool) → r ≡ beats prior (chosen best) i → r ≡ true → x ≡ true → To (Some i)
    best_wins r f b t = rw (found ∙ t) (record { sender = sym (wins prior (chosen best) i (sym f ∙ b)); place = c.few })

    pub best_unfit : x ≡ false → To best
    best_unfit t = rw (found ∙ t) (record { sender = refl; place = c.place })

-- ---- senders from n on change nothing where none of them passes

pub best_cut : (n d : ℕ) (p : ℕ → Bool) (q : ℕ → ℕ) → ((i : ℕ) → n ≤ i → i < n + d → p i ≡ false) → best_of (n + d) p q ≡ best_of n p q
unfolding best_of
best_cut n zero p q h = let s : n + 0 ≡ n = omega arith in ap (λ (k : ℕ). best_of k p q) s
best_cut n (suc d) p q h =
    let s : n + suc d ≡ suc (n + d) = omega arith in
    let e = h (n + d) (omega arith) (omega arith) in
    let r = best_cut n d p q (λ i a b. h i a (omega arith)) in
    ap (λ (k : ℕ). best_of k p q) s ∙ (λ i. if_fits (e i) q (best_of (n + d) p q) (n + d)) ∙ r

-- the same where the same pass
best_same : (n : ℕ) (p p' : ℕ → Bool) (q : ℕ → ℕ) → ((i : ℕ) → i < n → p i ≡ p' i) → best_of n p q ≡ best_of n p' q
unfolding best_of
best_same zero p p' q h = refl
best_same (suc n) p p' q h =
    let e = h n (omega arith) in
    let r = best_same n p p' q (λ i l. h i (omega arith)) in
    λ i. if_fits (e i) q (r i) n

-- ---- the senders of a set one after another: those whose proposals are filed and not set aside

-- Of the senders of the set below `from`, the best is found; those from there on are left.
pub record Choosing (lengths priorities names counts : List ℕ) (base a k set left : ℕ) (best : std.Option ℕ) : Type 0 where
  pub from : ℕ
  pub room : from ≤ most_senders
  pub later : (j : ℕ) → from ≤ j → member left j ≡ member set j
  pub past : (j : ℕ) → j < from → member left j ≡ false
  pub choice : Chooses (best_of from (λ (j : ℕ). member set j && prefix_at names counts a k (place_of base j) (get_or lengths j 0))
      (λ (j : ℕ). get_or priorities j 0)) best

module _ (lengths priorities names counts : List ℕ) (base a k set : ℕ) where
  abbrev q : ℕ → ℕ
  q j = get_or priorities j 0

  -- sender j's proposal has the lock as a prefix
  abbrev has-lock : ℕ → Bool
  has-lock j = prefix_at names counts a k (place_of base j) (get_or lengths j 0)

  abbrev may : ℕ → Bool
  may j = member set j && has-lock j

  pub best_start : (left : ℕ) → left ≡ set → Choosing lengths priorities names counts base a k set left None
  unfolding best_of
  best_start left same = rw same (record {
    from = 0;
    room = omega arith;
    later = λ j l. refl;
    past = λ j l. absurd (omega arith);
    choice = record { sender = refl; place = tt };
  })

  module _ (best : std.Option ℕ) (left : ℕ) (h : Choosing lengths priorities names counts base a k set left best) where
    module _ (i rest : ℕ) (t : Taken left i rest) where
      -- nobody is left below `from`
      above : h.from ≤ i
      above = elim (dec_le h.from i) [
        | yes l ↦ l
        | no l ↦ absurd (false≢true (sym (h.past i (omega arith)) ∙ t.0.inside))
      ]

      -- nobody of the set is between the best so far and i
      same_best : best_of i may q ≡ best_of h.from may q
      same_best =
          let l = above in
          let u : h.from + (i - h.from) ≡ i = omega arith in
          ap (λ (n : ℕ). best_of n may q) (sym u)
          ∙ best_cut h.from (i - h.from) may q (λ j x y.
          ap (λ (b : Bool). b && has-lock j) (sym (h.later j x) ∙ t.0.least j (omega arith)))

      mine : may i ≡ has-lock i
      mine = ap (λ (b : Bool). b && has-lock i) (sym (h.later i above) ∙ t.0.inside)

      pub best_next : (z : std.Option ℕ) → Chooses (if_fits (has-lock i) q (chosen best) i) z
          → Choosing lengths priorities names counts base a k set rest z
      unfolding best_of
      best_next z d = record {
        from = suc i;
        room = t.0.few;
        later = λ j l. let m = above in rest_as left i rest t j (λ same. omega arith) ∙ h.later j (omega arith);
        past = λ j l. either (member rest j)
            (λ e. absurd (false≢true (
            sym (t.0.least j (let d = other left i rest t j e in omega arith)) ∙ still_in left i rest t j e)))
            (λ e. e);
        choice = record {
          sender = d.sender ∙ ap (λ (b : Bool). if_fits b q (chosen best) i) (sym mine)
              ∙ ap (λ (o : Option ℕ). if_fits (may i) q o i) (h.choice.sender ∙ sym same_best);
          place = d.place;
        };
      }

      pub best_asks : Contest best i
      best_asks = record { place = h.choice.place; few = t.0.few }

    pub best_end : (m : Shown) (r : Bool) → SetOf (λ (j : ℕ). member m.filed j && not (member m.aside j)) most_senders set
        → r ≡ lacks_room names counts base → r ≡ false → left ≡ 0
        → Chooses (choice_of names counts base (proposals_from m lengths priorities) a k) best
    unfolding choice_of
    best_end m r s e t n =
        let l = h.room in
        let u : h.from + (most_senders - h.from) ≡ most_senders = omega arith in
        let cut = best_cut h.from (most_senders - h.from) may q (λ j x y. ap (λ (v : Bool). v && has-lock j)
        (sym (h.later j x) ∙ ap (λ (z : ℕ). member z j) n ∙ member_zero j)) in
        let same = best_same most_senders may (fits names counts base (proposals_from m lengths priorities) a k) q (λ j x.
        ap (λ (v : Bool). v && has-lock j) (s.at j x) ∙ and_assoc (member m.filed j) (not (member m.aside j)) (has-lock j)) in
        rw (← e, t) (record { sender = h.choice.sender ∙ sym cut ∙ ap (λ (x : ℕ). best_of x may q) u ∙ same; place = h.choice.place })

module _ (m : Shown) (lengths priorities names counts : List ℕ) (base a k : ℕ) where
  pub choice_lacks : (r : Bool) → r ≡ lacks_room names counts base → r ≡ true
      → Chooses (choice_of names counts base (proposals_from m lengths priorities) a k) None
  unfolding choice_of
  choice_lacks r e t = rw (← e, t) (record { sender = refl; place = tt })

-- ---- the best of the senders below n

module _ (p : ℕ → Bool) (q : ℕ → ℕ) where
  -- below n + 1: below n, or n itself
  below_or : {A : Type 0} (n j : ℕ) → j < suc n → (j < n → A) → (j ≡ n → A) → A
  below_or n j h f g = either (ltb j n) (λ l. f (ltb-true j n l)) (λ l. let m = ltb-false j n l in g (omega arith))

  none_step : (n : ℕ) (t : Bool) (o : Option ℕ) → p n ≡ t → if_fits t q o n ≡ none → (t ≡ false) × (o ≡ none)
  none_step n true none e d = absurd (some-ne-none n d)
  none_step n true (some m) e d = absurd (some-ne-none (pick (ltb (q m) (q n)) n m) d)
  none_step n false o e d = (refl, d)

  none_passes : (n : ℕ) → best_of n p q ≡ none → (j : ℕ) → j < n → p j ≡ false
  unfolding best_of
  none_passes zero e j h = absurd (omega arith)
  none_passes (suc n) e j h =
      let s = none_step n (p n) (best_of n p q) refl e in
      below_or n j h (none_passes n s.1 j) (λ same. ap p same ∙ s.0)

  none_where : (n : ℕ) → ((j : ℕ) → j < n → p j ≡ false) → best_of n p q ≡ none
  unfolding best_of
  none_where zero f = refl
  none_where (suc n) f = rw (f n (omega arith)) (none_where n (λ j h. f j (omega arith)))

  -- none is best exactly where none passes
  pub best_none_iff : (n : ℕ) → (best_of n p q ≡ none) ↔ ((j : ℕ) → j < n → p j ≡ false)
  best_none_iff n = (none_passes n, none_where n)

  -- ---- one sender more

  -- n fails the test
  best_kept : (n i : ℕ) → p n ≡ false → Best n p q i → Best (suc n) p q i
  best_kept n i e b =
      let l = b.below in
      record {
        below = omega arith;
        passes = b.passes;
        top = λ j h f. below_or n j h (λ m. b.top j m f) (λ same. absurd (false≢true (sym e ∙ sym (ap p same) ∙ f)));
      }

  -- n alone passes it
  best_alone : (n : ℕ) → p n ≡ true → best_of n p q ≡ none → Best (suc n) p q n
  best_alone n e none' = record {
    below = omega arith;
    passes = e;
    top = λ j h f. below_or n j h (λ m. absurd (false≢true (sym (none_passes n none' j m) ∙ f))) (λ same. inr (ap q same, omega arith));
  }

  -- n is of higher priority than the best so far
  best_higher : (n m : ℕ) → p n ≡ true → q m < q n → Best n p q m → Best (suc n) p q n
  best_higher n m e l b = record {
    below = omega arith;
    passes = e;
    top = λ j h f. below_or n j h (λ k. inl (lower j (b.top j k f))) (λ same. inr (ap q same, omega arith));
  }
    where
      lower : (j : ℕ) → NotBelow q m j → q j < q n
      lower j (inl h) = omega arith
      lower j (inr (h, k)) = omega arith

  -- n is not
  best_stays : (n m : ℕ) → q n ≤ q m → Best n p q m → Best (suc n) p q m
  best_stays n m l b =
      let s = b.below in
      record { below = omega arith; passes = b.passes; top = λ j h f. below_or n j h (λ k. b.top j k f) (λ same. last j same) }
    where
      last : (j : ℕ) → j ≡ n → NotBelow q m j
      last j same =
          let e = ap q same in
          let s = b.below in
          either (ltb (q j) (q m)) (λ h. inl (ltb-true (q j) (q m) h))
          (λ h. let g = ltb-false (q j) (q m) h in inr (omega arith, omega arith))

  best_step : (n i : ℕ) (t : Bool) (o : Option ℕ) → p n ≡ t → best_of n p q ≡ o → ((m : ℕ) → o ≡ some m → Best n p q m)
      → if_fits t q o n ≡ some i → Best (suc n) p q i
  best_step n i false o e f b d = best_kept n i e (b i d)
  best_step n i true none e f b d = subst (λ (k : ℕ). Best (suc n) p q k) (some-injective n i d) (best_alone n e f)
  best_step n i true (some m) e f b d =
      let same = some-injective (pick (ltb (q m) (q n)) n m) i d in
      subst (λ (k : ℕ). Best (suc n) p q k) same
      (either (ltb (q m) (q n))
      (λ h. rw h (best_higher n m e (ltb-true (q m) (q n) h) (b m refl)))
      (λ h. rw h (best_stays n m (ltb-false (q m) (q n) h) (b m refl))))

  pub best_is : (n i : ℕ) → best_of n p q ≡ some i → Best n p q i
  unfolding best_of
  best_is zero i e = absurd (none-ne-some i e)
  best_is (suc n) i e = best_step n i (p n) (best_of n p q) refl refl (best_is n) e

-- ---- the vote

module _ (names counts : List ℕ) (base : ℕ) (g : Proposals) (a k : ℕ) where
  -- lists without room hold no proposal
  chosen_best : (i : ℕ) (t : Bool) → lacks_room names counts base ≡ t → choice_of names counts base g a k ≡ some i
      → Best most_senders (fits names counts base g a k) (λ (j : ℕ). get_or g.priorities j 0) i
  unfolding choice_of
  chosen_best i true t e = absurd (none-ne-some i (rw t at e))
  chosen_best i false t e = best_is (fits names counts base g a k) (λ (j : ℕ). get_or g.priorities j 0) most_senders i (rw t at e)

  module _ (i : ℕ) (e : choice_of names counts base g a k ≡ some i) where
    pub choice_fits : fits names counts base g a k i ≡ true
    choice_fits = (chosen_best i (lacks_room names counts base) refl e).passes

    -- every sender that fits has a lower priority, or the same and a number not lower
    pub choice_best : (j : ℕ) → j < most_senders → fits names counts base g a k j ≡ true → NotBelow (λ (m : ℕ). get_or g.priorities m 0) i j
    choice_best = (chosen_best i (lacks_room names counts base) refl e).top

  -- none is chosen exactly where none fits
  pub choice_none_iff : lacks_room names counts base ≡ false
      → (choice_of names counts base g a k ≡ none) ↔ ((j : ℕ) → j < most_senders → fits names counts base g a k j ≡ false)
  unfolding choice_of
  choice_none_iff t = rw t (best_none_iff (fits names counts base g a k) (λ (j : ℕ). get_or g.priorities j 0) most_senders)
