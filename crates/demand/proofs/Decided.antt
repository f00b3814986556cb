-- The logs decided in a list of calls; and where no two of them conflict, what stands is the longest and no mark is set. Assumes nothing.
use Prim.Native.Nat.{ℕ}
use mathlib.Core.Path.{◌≡◌, refl, sym, ap, subst, ◌∙◌}
use mathlib.Core.Logic.{◌⊎◌, inl, inr}
use mathlib.Core.List.Memᴰ
use mathlib.Core.List.{List, [], ◌∷◌, ◌++◌, append-nil, append_assoc, Memᴰ as Mem}
use mathlib.Core.Option.{Option, some, none}
use mathlib.Core.Bool.{true, false, false≢true}
use Rattle.message.specs.Logs.{Log, Prefix, empty, Compatible, is_prefix}
use Rattle.message.proofs.LogLaws.{prefix_refl, prefix_trans, prefix_length, is_prefix_iff}
use Rattle.bench.specs.Terms.{Terms, Seat, nothing_stands, seat_of}
use Rattle.bench.specs.Calls.{Call, act}
use Rattle.bench.specs.Acts.{Stand, settle}
use Rattle.bench.specs.History.{ActRecord, after, stand_in, stand}
use Rattle.bench.proofs.CallLaws.{record_of}
use Rattle.bench.proofs.HistoryActs.{settle_none, settle_cases}
use Rattle.bench.proofs.HistoryLaws.{stand_in_lem, stand_in_nil, stand_in_cons}
use Rattle.demand.specs.Places.{Decides, LongestDecided}
use Rattle.demand.proofs.Beats.{act_recorded}
use Rattle.demand.proofs.ActPlaces.{act_place}

-- ---- the logs decided, as a list

abbrev keep_some : Option Log → List Log → List Log
keep_some none Ls = Ls
keep_some (some L) Ls = L ∷ Ls

unfoldable pub decided_in : List ActRecord → List Log
decided_in [] = []
decided_in (d ∷ ds) = keep_some d.decided (decided_in ds)

-- ---- the logs decided, by place and on record

decided_mem : (ds : List ActRecord) (d : ActRecord) (L : Log) → Mem d ds → d.decided ≡ some L → Mem L (decided_in ds)
unfolding decided_in
decided_mem [] d L i e = absurd (Memᴰ.not-nil i)
decided_mem (x ∷ xs) d L i e = elim (Memᴰ.cases_cons i) [
  | inl q ↦ rw (ap (λ (y : ActRecord). y.decided) (sym q) ∙ e) (Mem.head refl)
  | inr j ↦ more_in x.decided (decided_mem xs d L j e)
]
  where
    more_in : (o : Option Log) → Mem L (decided_in xs) → Mem L (keep_some o (decided_in xs))
    more_in none j = j
    more_in (some M) j = Mem.tail j

mem_decided : (ds : List ActRecord) (L : Log) → Mem L (decided_in ds) → (d : ActRecord) × Mem d ds × (d.decided ≡ some L)
unfolding decided_in
mem_decided [] L i = absurd (Memᴰ.not-nil i)
mem_decided (x ∷ xs) L i = go x.decided refl i (mem_decided xs L)
  where
    lift : ((d : ActRecord) × Mem d xs × (d.decided ≡ some L)) → (d : ActRecord) × Mem d (x ∷ xs) × (d.decided ≡ some L)
    lift y = (y.0, Mem.tail y.1, y.2)

    go : (o : Option Log) → x.decided ≡ o → Mem L (keep_some o (decided_in xs))
        → (Mem L (decided_in xs) → (d : ActRecord) × Mem d xs × (d.decided ≡ some L))
        → (d : ActRecord) × Mem d (x ∷ xs) × (d.decided ≡ some L)
    go none e j below = lift (below j)
    go (some M) e j below = elim (Memᴰ.cases_cons j) [
      | inl q ↦ (x, Mem.head refl, e ∙ ap {B = Option Log} some (sym q))
      | inr k ↦ lift (below k)
    ]

module _ (S : Seat) (cs : List Call) where
  decides_mem : (L : Log) → Decides S cs L → Mem L (decided_in (after S cs).actions)
  decides_mem L d =
      let t = d.acts in
      let c = act t.block t.priority t.out in
      let a = record_of S (after S d.pre) t.block t.priority in
      let e : cs ≡ (d.pre ++ (c ∷ [])) ++ t.place.0 = t.place.1 ∙ sym (append_assoc d.pre (c ∷ []) t.place.0) in
      decided_mem (after S cs).actions a L
      (subst (λ (l : List Call). Mem a (after S l).actions) (sym e)
      (act_recorded S d.pre t.place.0 t.block t.priority t.out t.ok))
      d.decided

  pub mem_decides : (L : Log) → Mem L (decided_in (after S cs).actions) → Decides S cs L
  mem_decides L i =
      let x = mem_decided (after S cs).actions L i in
      let y = act_place S cs cs [] (sym (append-nil cs)) x.0 x.1 in
      record {
        pre = y.pre;
        beat = x.0.beat;
        acts = y.acts;
        decided = sym y.decided ∙ x.2;
      }

-- what is decided in a start of a list is decided in the list
pub decides_start : (S : Seat) (pre post : List Call) (L : Log) → Decides S pre L → Decides S (pre ++ post) L
decides_start S pre post L d =
    let a = d.acts in
    record {
      pre = d.pre;
      beat = d.beat;
      acts =
          record {
            block = a.block;
            priority = a.priority;
            out = a.out;
            place = (
              a.place.0 ++ post,
              ap (λ (l : List Call). l ++ post) a.place.1
                  ∙ append_assoc d.pre (act a.block a.priority a.out ∷ a.place.0) post,
            );
            ok = a.ok;
            beat = a.beat;
          };
      decided = d.decided;
    }

-- ---- what stands where no two decided logs conflict

-- Ls being decided, what stands has no mark, extends all of them, and is one of them
pub record Good (Ls : List Log) (st : Stand) : Type 0 where
  pub unmarked : st.parted ≡ false
  pub above : (L : Log) → Mem L Ls → Prefix L st.log
  pub among : Mem st.log Ls ⊎ ((st.log ≡ []) × (Ls ≡ []))

abbrev Agreeing : List Log → Type 0
Agreeing Ls = (L M : Log) → Mem L Ls → Mem M Ls → Compatible L M

-- one more decision
settle_good : (Ls : List Log) (st : Stand) (L : Log) → Agreeing (L ∷ Ls) → Good Ls st → Good (L ∷ Ls) (settle st (some L))
settle_good Ls st L agree g =
    settle_cases st L (Good (L ∷ Ls)) extends stays (λ e f. absurd (false≢true (sym f ∙ (is_prefix_iff L st.log).1 (under e))))
  where
    -- where what stands is no prefix of L, it is one of the logs decided, and L is a prefix of it
    no : is_prefix st.log L ≡ false → Prefix st.log L → ⊥
    no e k = false≢true (sym e ∙ (is_prefix_iff st.log L).1 k)

    stood : is_prefix st.log L ≡ false → Mem st.log Ls
    stood e = elim g.among [ inl m ↦ m | inr q ↦ absurd (no e (rw q.0 empty)) ]

    under : is_prefix st.log L ≡ false → Prefix L st.log
    under e = elim (agree st.log L (Mem.tail (stood e)) (Mem.head refl)) [ inl k ↦ absurd (no e k) | inr k ↦ k ]

    extends : is_prefix st.log L ≡ true → Good (L ∷ Ls) (record { log = L; parted = st.parted })
    extends e =
        let h = (is_prefix_iff st.log L).0 e in
        record {
          unmarked = g.unmarked;
          above = λ M i. elim (Memᴰ.cases_cons i) [ inl q ↦ rw q (prefix_refl L) | inr j ↦ prefix_trans (g.above M j) h ];
          among = inl (Mem.head refl);
        }

    stays : is_prefix st.log L ≡ false → is_prefix L st.log ≡ true → Good (L ∷ Ls) st
    stays e f = record {
      unmarked = g.unmarked;
      above = λ M i. elim (Memᴰ.cases_cons i) [ inl q ↦ rw q (under e) | inr j ↦ g.above M j ];
      among = inl (Mem.tail (stood e));
    }

decided_more : (Ls : List Log) (st : Stand) (o : Option Log) → Agreeing (keep_some o Ls) → (Agreeing Ls → Good Ls st)
    → Good (keep_some o Ls) (settle st o)
decided_more Ls st none agree below = subst (Good Ls) (sym (settle_none st)) (below agree)
decided_more Ls st (some L) agree below = settle_good Ls st L agree (below (λ M K i j. agree M K (Mem.tail i) (Mem.tail j)))

stand_good : (ds : List ActRecord) → Agreeing (decided_in ds) → Good (decided_in ds) (stand_in nothing_stands ds)
unfolding decided_in
stand_good [] agree =
    subst (Good []) (sym (stand_in_nil nothing_stands))
    (record { unmarked = refl; above = λ L i. absurd (Memᴰ.not-nil i); among = inr (refl, refl) })
stand_good (d ∷ ds) agree =
    subst (Good (decided_in (d ∷ ds))) (sym (stand_in_cons nothing_stands d ds))
    (decided_more (decided_in ds) (stand_in nothing_stands ds) d.decided agree (stand_good ds))

-- Where no two logs decided in the list conflict, what stands is the longest of them, and there is no mark.
pub stands_longest : (T : Terms) (own : ℕ) (cs : List Call)
    → ((L M : Log) → Decides (seat_of T own) cs L → Decides (seat_of T own) cs M → Compatible L M)
    → LongestDecided (seat_of T own) cs (stand (seat_of T own) cs).log × ((stand (seat_of T own) cs).parted ≡ false)
stands_longest T own cs agree =
    let ds = (after (seat_of T own) cs).actions in
    let s = stand_in_lem (seat_of T own) cs in
    let g = stand_good ds (λ L M i j. agree L M (mem_decides (seat_of T own) cs L i) (mem_decides (seat_of T own) cs M j)) in (
      subst (λ (st : Stand). LongestDecided (seat_of T own) cs st.log) (sym s) (record {
        among = elim g.among [
          | inl m ↦ inl (mem_decides (seat_of T own) cs (stand_in nothing_stands ds).log m)
          | inr e ↦ inr (e.0, λ M d. Memᴰ.not-nil (rw e.1 at (decides_mem (seat_of T own) cs M d)))
        ];
        above = λ M d. prefix_length (g.above M (decides_mem (seat_of T own) cs M d));
      }),
      ap (λ (st : Stand). st.parted) s ∙ g.unmarked,
    )
