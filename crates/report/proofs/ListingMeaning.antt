-- What a caller may conclude from what is listed of two texts (02, S-9), where the archive reading takes them: whether the reading takes them too, with as many
-- cells lent, and if not, where it refuses them.
use mathlib.Core.Path.{◌≡◌, refl, ap, sym, ◌∙◌}
use mathlib.Core.Logic.{◌↔◌}
use mathlib.Core.List.{List, [], ◌∷◌, map}
use Prim.Native.Nat.{ℕ}
use native.Mathlib.Omega.{arith}
use lib.ListN.{length, length-append}
use Rattle.text.specs.declared.Clash.{Clash}
use Rattle.text.specs.declared.Spelling.TheVariants.{Exact, Folded}
use Rattle.text.specs.declared.TextRefusal.{TextRefusal}
use Rattle.text.specs.Reading.{Reading, both, neither, read_both}
use Rattle.text.specs.Writing.{decimal, tabbed, printed}
use Rattle.text.specs.Clashes.{clashes_of}
use Rattle.text.proofs.Archive.{unless_listed, listed as by-clashes}
use Rattle.report.specs.Lines.{clash_row}
use Rattle.report.specs.Listing.{clash_lines, listed, listing_text, FirstLine}
use Rattle.theory.specs.declared.Rule.TheVariants as rule
use Rattle.theory.specs.Rules.{rule_number}

no_bytes : (k : Clash) (l : List Clash) → clash_lines (k ∷ l) ≡ [] → ⊥
unfolding clash_lines printed
no_bytes k l e = omega (arith, ap length e, length-append (tabbed (clash_row k)) (10 ∷ printed (map clash_row l)))

both-refused : (x y : Reading) (r : TextRefusal) → both x y ≡ neither r → ⊥
both-refused x y r e = cc

module _ (m p : List ℕ) (cm cp : ℕ) (x y : Reading) (taken : read_both Exact cm m cp p ≡ both x y) where
  abbrev clashes : List Clash
  clashes = clashes_of m p y.signals

  lines_are : listing_text m p cm cp ≡ clash_lines clashes
  unfolding listing_text
  lines_are = ap (listed m p) taken

  reading-is : read_both Folded cm m cp p ≡ unless_listed clashes (both x y)
  reading-is = by-clashes cm m cp p x y taken

  -- Nothing is listed exactly if the reading takes the texts too, and alike.
  pub nothing-listed : (listing_text m p cm cp ≡ []) ↔ (read_both Folded cm m cp p ≡ both x y)
  unfolding clash_lines printed
  nothing-listed = (
    λ e. go clashes reading-is (sym lines_are ∙ e),
    λ e. back clashes (sym reading-is ∙ e) lines_are,
  )
    where
      go : (l : List Clash) → read_both Folded cm m cp p ≡ unless_listed l (both x y) → clash_lines l ≡ [] → read_both Folded cm m cp p ≡ both x y
      go [] e f = e
      go (k ∷ l) e f = absurd (no_bytes k l f)

      back : (l : List Clash) → unless_listed l (both x y) ≡ both x y → listing_text m p cm cp ≡ clash_lines l → listing_text m p cm cp ≡ []
      back [] e f = f
      back (k ∷ l) e f = absurd (both-refused x y _ (sym e))

  -- Where the reading refuses them, it is by 28, in the file and at the line that the first line of the list begins with.
  pub refused-first : (r : TextRefusal) → read_both Folded cm m cp p ≡ neither r → (rule_number r.rule ≡ 28) × FirstLine (listing_text m p cm cp) r.text r.line
  unfolding clash_lines
  refused-first r e = go clashes (sym reading-is ∙ e) lines_are
    where
      go : (l : List Clash) → unless_listed l (both x y) ≡ neither r → listing_text m p cm cp ≡ clash_lines l
          → (rule_number r.rule ≡ 28) × FirstLine (listing_text m p cm cp) r.text r.line
      go [] f g = absurd (both-refused x y r f)
      go (k ∷ l) f g =
          let same : record { rule = rule.NameClash; text = k.later.text; line = k.later.line } ≡ r = cc in
          rw (← same) (refl, record { others = decimal k.first.text ∷ decimal k.first.line ∷ []; rows = map clash_row l; lines = g })

  -- The reading refuses them exactly if a line is listed.
  pub some-listed : ((r : TextRefusal) × (read_both Folded cm m cp p ≡ neither r)) ↔ (¬ (listing_text m p cm cp ≡ []))
  unfolding clash_lines printed
  some-listed = (
    λ (r, e) none. both-refused x y r (sym (nothing-listed.0 none) ∙ e),
    λ some. go clashes reading-is lines_are some,
  )
    where
      go : (l : List Clash) → read_both Folded cm m cp p ≡ unless_listed l (both x y) → listing_text m p cm cp ≡ clash_lines l → ¬ (listing_text m p cm cp ≡ [])
          → (r : TextRefusal) × (read_both Folded cm m cp p ≡ neither r)
      go [] e f some = absurd (some f)
      go (k ∷ l) e f some = (record { rule = rule.NameClash; text = k.later.text; line = k.later.line }, e)
