-- What is printed line by line is read line by line.
use mathlib.Core.Path.{◌≡◌, refl, ap, ◌∙◌}
use mathlib.Core.Bool.{Bool, true, false, ◌&&◌, cond}
use mathlib.Core.List.{List, [], ◌∷◌, ◌++◌, map}
use Prim.Native.Nat.{ℕ, zero, suc, ◌+◌, ◌≤◌, ◌<◌}
use native.Mathlib.Omega.{arith}
use lib.Dec.{leb}
use lib.ListN.{length}
use Rattle.text.specs.declared.Spelling.{Spelling}
use Rattle.text.specs.Fields.{split, all, name_byte, name_ok, digit_byte}
use Rattle.text.specs.Lines.{parse, by_kind}
use Rattle.text.specs.Reading.{Reading, next, entered, finished, onward, read_lines}
use Rattle.text.specs.Writing.{decimal, tabbed, printed, those}
use Rattle.text.proofs.Split.{Free, free_cons, free-append, free_all, split-last, split_join, split-some}
use Rattle.text.proofs.Decimal.{decimal-digits}

-- ---- lines that are cut into their fields again

-- A field has no tab and no LF.
pub record Field (s : List ℕ) : Type 0 where
  pub tab : Free 9 s
  pub feed : Free 10 s

field_of : (test : ℕ → Bool) (s : List ℕ) → test 9 ≡ false → test 10 ≡ false → all test s ≡ true → Field s
field_of test s e f h = record { tab = free_all test 9 s e h; feed = free_all test 10 s f h }

pub name_field : (s : List ℕ) → name_ok s ≡ true → Field s
unfolding name_ok name_byte
name_field s h = field_of name_byte s refl refl (last (leb 1 (length s)) (leb (length s) 16) h)
  where
    last : (a b : Bool) → (a && b && all name_byte s) ≡ true → all name_byte s ≡ true
    last true true e = e
    last true false e = cc
    last false b e = cc

pub number_field : (n : ℕ) → n ≤ 65535 → Field (decimal n)
unfolding digit_byte
number_field n h = field_of digit_byte (decimal n) refl refl (decimal-digits n h).digits

-- A line whose fields are found again.
pub record Plain (fs : List (List ℕ)) : Type 0 where
  pub parts : split 9 (tabbed fs) ≡ fs
  pub feed : Free 10 (tabbed fs)

pub plain-last : (f : List ℕ) → Field f → Plain (f ∷ [])
unfolding tabbed
plain-last f h = record { parts = split-last 9 f h.tab; feed = h.feed }

pub plain_cons : (f g : List ℕ) (fs : List (List ℕ)) → Field f → Plain (g ∷ fs) → Plain (f ∷ g ∷ fs)
unfolding tabbed
plain_cons f g fs h p = record {
  parts = split_join 9 f (tabbed (g ∷ fs)) h.tab ∙ ap (λ l. f ∷ l) p.parts;
  feed = free-append 10 f (9 ∷ tabbed (g ∷ fs)) h.feed (free_cons 10 9 (tabbed (g ∷ fs)) refl p.feed);
}

-- ---- lines that lead a reading on

module _ (c : Spelling) (text : ℕ) where
  -- Lines lead from one reading to another, where the first line begins at the byte `at`.
  pub data Runs : List (List (List ℕ)) → ℕ → Reading → Reading → Type 0 where
    done : {at : ℕ} {a : Reading} → Runs [] at a a
    goes : {l : List (List ℕ)} {ls : List (List (List ℕ))} {at : ℕ} {a m b : Reading} → Plain l → entered c text at a (by_kind a.place l) ≡ next m
        → Runs ls (at + length (tabbed l) + 1) m b → Runs (l ∷ ls) at a b

  -- Lines lead to some reading with the property P.
  pub record Reaches (ls : List (List (List ℕ))) (at : ℕ) (a : Reading) (P : Reading → Type 0) : Type 0 where
    pub end : Reading
    pub runs : Runs ls at a end
    pub holds : P end

  runs_append : {ls ms : List (List (List ℕ))} {at : ℕ} {a b : Reading} {P : Reading → Type 0} → Runs ls at a b → ((at : ℕ) → Reaches ms at b P) → Reaches (ls ++ ms) at a P
  runs_append {at = at} done r = r at
  runs_append (goes p e s) r = let u = runs_append s r in record { end = u.end; runs = goes p e u.runs; holds = u.holds }

  pub reaches_then : {ls ms : List (List (List ℕ))} {at : ℕ} {a : Reading} {P Q : Reading → Type 0} → Reaches ls at a P
      → ((b : Reading) → P b → (at : ℕ) → Reaches ms at b Q) → Reaches (ls ++ ms) at a Q
  reaches_then u f = runs_append u.runs (f u.end u.holds)

  pub reaches_map : {ls : List (List (List ℕ))} {at : ℕ} {a : Reading} {P Q : Reading → Type 0} → ((b : Reading) → P b → Q b) → Reaches ls at a P → Reaches ls at a Q
  reaches_map f u = record { end = u.end; runs = u.runs; holds = f u.end u.holds }

  -- A line for each number that passes the test: an invariant of the numbers that had their turn leads to the end.
  module _ (row : ℕ → List (List ℕ)) (f : ℕ → Bool) (Before : ℕ → Reading → Type 0) (end : ℕ)
      (one : (x : ℕ) → x < end → f x ≡ true → (a : Reading) → Before x a
      → Plain (row x) × ((at : ℕ) → (m : Reading) × (entered c text at a (by_kind a.place (row x)) ≡ next m) × Before (suc x) m))
      (skip : (x : ℕ) → x < end → f x ≡ false → (a : Reading) → Before x a → Before (suc x) a) where
    pub reaches_those : (n s at : ℕ) (a : Reading) → s + n ≡ end → Before s a → Reaches (map row (those f s n)) at a (Before end)
    unfolding those
    reaches_those zero s at a e w = let q : s ≡ end = omega arith in record { end = a; runs = done; holds = rw q at w }
    reaches_those (suc n) s at a e w = go (f s) refl (λ at a. reaches_those n (suc s) at a (omega arith))
      where
        go : (b : Bool) → f s ≡ b → ((at : ℕ) (a : Reading) → Before (suc s) a → Reaches (map row (those f (suc s) n)) at a (Before end))
            → Reaches (map row (cond b (s ∷ those f (suc s) n) (those f (suc s) n))) at a (Before end)
        go true q rest =
            let (p, enter) = one s (omega arith) q a w in
            let (m, r, v) = enter at in
            let u = rest (at + length (tabbed (row s)) + 1) m v in
            record { end = u.end; runs = goes p r u.runs; holds = u.holds }
        go false q rest = rest at a (skip s (omega arith) q a w)

  line_first : (k at : ℕ) (a : Reading) (l s : List ℕ)
      → read_lines c text k at a (l ∷ split 10 s) ≡ onward text k (entered c text at a (parse a.place l)) (λ x. read_lines c text (suc k) (at + length l + 1) x (split 10 s))
  unfolding read_lines
  line_first k at a l s = let (f, fs, e) = split-some 10 s in rw e

  pub runs-read : {ls : List (List (List ℕ))} {at : ℕ} {a b : Reading} (k : ℕ) → Runs ls at a b → read_lines c text k at a (split 10 (printed ls)) ≡ finished b
  unfolding printed read_lines split parse
  runs-read k done = refl
  runs-read k (goes {l} {ls} {at} {a} {m} {b} p e r) =
      ap (read_lines c text k at a) (split_join 10 (tabbed l) (printed ls) p.feed)
      ∙ line_first k at a (tabbed l) (printed ls)
      ∙ ap (λ x. onward text k x (λ x. read_lines c text (suc k) (at + length (tabbed l) + 1) x (split 10 (printed ls))))
      (ap (λ fs. entered c text at a (by_kind a.place fs)) p.parts ∙ e)
      ∙ runs-read (suc k) r
