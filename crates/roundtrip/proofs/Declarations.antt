-- What the declarations of a written table do to a reading.
use mathlib.Core.Path.{◌≡◌, refl, sym, subst, ap, ◌∙◌}
use mathlib.Core.Bool.{Bool, true, false, ◌||◌, cond}
use mathlib.Core.List.{List, [], ◌∷◌, map}
use Prim.Native.Nat.{ℕ, suc, ◌+◌, ◌-◌, ◌≤◌, ◌<◌}
use native.Mathlib.Omega.{arith}
use lib.Dec.{T}
use lib.ListN.{length, get_or}
use Rattle.theory.specs.Table.{Table, member}
use Rattle.theory.specs.Checks.{declared}
use Rattle.theory.specs.Valid.{Valid}
use Rattle.text.specs.declared.Place.TheVariants.{Declarations}
use Rattle.text.specs.declared.Role.{Role}
use Rattle.text.specs.declared.Role.TheVariants.{Input, Output}
use Rattle.text.specs.declared.Spelling.{Spelling}
use Rattle.text.specs.Lines.{role_word, by_kind}
use Rattle.text.specs.Roles.{has_role, role_of}
use Rattle.text.specs.Reading.{Signal, Reading, next, index_of, with_role, known, entered}
use Rattle.text.specs.Writing.{those, signals, name_of, signal_row}
use Rattle.text.proofs.Roles.{roles_at, no_role, only, some_role, roles-here, roles-there}
use Rattle.text.proofs.Entries.{declaring-next}
use Rattle.text.proofs.Accepted.{with-states, with-initial}
use Rattle.roundtrip.specs.RoundTrip.{place, different}
use Rattle.roundtrip.proofs.Names.{Told, told_with, place-name, number-first, names_in, index_place, index_told, known-names}
use Rattle.roundtrip.proofs.Lines.{Plain, Reaches, reaches_those}
use Rattle.roundtrip.proofs.Put.{Put, put_blank, put_next, put_skip}
use Rattle.roundtrip.proofs.Rows.{Writable, apart-names, signal-plain, signal-entry}

-- The lists of a table at a declared signal are those of its role.
role_only : (t : Table) (a : ℕ) → Valid t → T (declared t a) → roles_at t.header a ≡ only (role_of t.header a)
role_only t a v d = λ i r. at r i
  where
    go : (x y : Bool) → (T x → ¬ T y) → T (x || y) → (x ≡ only (cond x Input Output) Input) × (y ≡ only (cond x Input Output) Output)
    go true true f d = absurd (f tt tt)
    go true false f d = (refl, refl)
    go false true f d = (refl, refl)
    go false false f d = absurd d

    at : (r : Role) → has_role r t.header a ≡ only (role_of t.header a) r
    at Input = (go (member t.header.inputs a) (member t.header.outputs a) (v.disjoint.inputs a) d).0
    at Output = (go (member t.header.inputs a) (member t.header.outputs a) (v.disjoint.inputs a) d).1

-- The number of the signal a, where the names are numbered by their places in a list.
abbrev pub number_in : List (List ℕ) → List (List ℕ) → ℕ → ℕ
number_in names final a = place (name_of names a) final

-- Every declared signal's name has a place, below 32.
pub record Numbered (t : Table) (names final : List (List ℕ)) : Type 0 where
  pub within : (a : ℕ) → T (declared t a) → number_in names final a < length final
  pub few : length final ≤ 32

module _ (t : Table) (name : List ℕ) (names final : List (List ℕ)) (w : Writable t name names) (n : Numbered t names final) where
  abbrev number : ℕ → ℕ
  number = number_in names final

  pub number_lt : (a : ℕ) → T (declared t a) → number a < 32
  number_lt a d = omega (arith, n.within a d, n.few)

  pub number-apart : (a b : ℕ) → T (declared t a) → T (declared t b) → number a ≡ number b → a ≡ b
  number-apart a b h k e =
      apart-names w a b h k
      (sym (place-name (name_of names a) final (n.within a h)) ∙ ap (λ i. get_or final i []) e ∙ place-name (name_of names b) final (n.within b k))

  -- The declared signals below p are declared again, the others are left. No name of the table clashes with one so far.
  pub record Declaring (c : Spelling) (lent : List ℕ) (p : ℕ) (a : Reading) : Type 0 where
    pub stands : a.place ≡ Declarations
    pub states : a.header.states ≡ t.header.states
    pub initial : a.header.initial ≡ t.header.initial
    pub cells : a.cells ≡ lent
    pub told : (x : ℕ) → T (declared t x) → Told c (name_of names x) (names_in a.signals)
    pub all : different (names_in a.signals) (map (name_of names) (those (declared t) p (32 - p))) ≡ final
    pub roles : Put (λ x. x) number (roles_at t.header) no_role (λ x. T (declared t x)) p (roles_at a.header)

  -- The signals left from x on.
  those-from : (x : ℕ) → x < 32 → those (declared t) x (32 - x) ≡ cond (declared t x) (x ∷ those (declared t) (suc x) (32 - suc x)) (those (declared t) (suc x) (32 - suc x))
  unfolding those
  those-from x h = let e : 32 - x ≡ suc (32 - suc x) = omega arith in rw e

  module _ (c : Spelling) (text : ℕ) (lent : List ℕ) where
    one : (x : ℕ) → x < 32 → declared t x ≡ true → (a : Reading) → Declaring c lent x a
        → Plain (signal_row t names x) × ((at : ℕ) → (m : Reading) × (entered c text at a (by_kind a.place (signal_row t names x)) ≡ next m) × Declaring c lent (suc x) m)
    unfolding entered different
    one x h is a u = (signal-plain t name names w x here, λ at. (after at, enter at, next_one at))
      where
        here : T (declared t x)
        here = rw is tt

        r : Role
        r = role_of t.header x

        i : ℕ
        i = index_of (name_of names x) a.signals

        rest : List (List ℕ)
        rest = map (name_of names) (those (declared t) (suc x) (32 - suc x))

        all : different (names_in a.signals) (name_of names x ∷ rest) ≡ final
        all = rw (those-from x h, is) at u.all

        i-number : number x ≡ i
        i-number =
            ap (place (name_of names x)) (sym all) ∙ number-first (name_of names x) (names_in a.signals) rest ∙ sym (index_place (name_of names x) a.signals)

        low : i < 32
        low = omega (arith, i-number, number_lt x here)

        free : roles_at a.header i ≡ no_role
        free = rw (← i-number) (put_blank (λ x. x) number (roles_at t.header) no_role (λ x. T (declared t x)) u.roles x here (omega arith))

        signal : ℕ → Signal
        signal at = record { name = name_of names x; text = text; from = at + length (role_word r) + 1 }

        after : ℕ → Reading
        after at = record { place = Declarations; header = with_role r i a.header; signals = known a.signals (signal at) i; cells = a.cells }

        enter : (at : ℕ) → entered c text at a (by_kind a.place (signal_row t names x)) ≡ next (after at)
        enter at =
            ap (λ p. entered c text at a (by_kind p (signal_row t names x))) u.stands ∙ ap (entered c text at a) (signal-entry t name names w x here)
            ∙ declaring-next c a r (signal at) i (λ d. subst (λ p. T (some_role p)) free d)
            (index_told c (name_of names x) a.signals (u.told x here)) low

        next_one : (at : ℕ) → Declaring c lent (suc x) (after at)
        next_one at = record {
          stands = refl;
          states = with-states r i a.header ∙ u.states;
          initial = with-initial r i a.header ∙ u.initial;
          cells = u.cells;
          told = λ y d. rw (known-names a.signals (signal at))
              (told_with c (name_of names y) (names_in a.signals) (name_of names x) (u.told y d) (λ e. ap (name_of names) (w.apart c x y here d e)));
          all = ap (λ l. different l rest) (known-names a.signals (signal at)) ∙ all;
          roles =
              put_next (λ x. x) number (roles_at t.header) no_role (λ x. T (declared t x)) u.roles x here refl (λ y h e. number-apart y x h here e) (λ y h e. e)
              (rw i-number (roles-here r i a.header low free ∙ sym (role_only t x w.valid here)))
              (λ j d. roles-there r i a.header j low (λ e. d (e ∙ sym i-number)));
        }

    skip : (x : ℕ) → x < 32 → declared t x ≡ false → (a : Reading) → Declaring c lent x a → Declaring c lent (suc x) a
    skip x h fails a u = record {
      stands = u.stands;
      states = u.states;
      initial = u.initial;
      cells = u.cells;
      told = u.told;
      all = rw (those-from x h, fails) at u.all;
      roles =
          put_skip (λ x. x) number (roles_at t.header) no_role (λ x. T (declared t x)) u.roles
          (λ y d e. absurd (let z : T (declared t x) = subst (λ i. T (declared t i)) e d in (rw fails at z)));
    }

    pub declarations : (at : ℕ) (a : Reading) → Declaring c lent 0 a → Reaches c text (map (signal_row t names) (signals t)) at a (Declaring c lent 32)
    unfolding signals
    declarations at a = reaches_those c text (signal_row t names) (declared t) (Declaring c lent) 32 one skip 32 0 at a refl
