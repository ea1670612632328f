-- What compose reads off the search's ranks is theory's composition.
use mathlib.Core.Path.{◌≡◌, refl, ap, ◌∙◌}
use mathlib.Core.Bool.{Bool}
use mathlib.Core.List.{List}
use Prim.Native.Nat.{ℕ, ◌*◌}
use lib.Dec.{eqb}
use lib.ListN.{get_or, length}
use Rattle.theory.specs.declared.Automaton.{Automaton}
use Rattle.theory.specs.Table.{Table, composition, product_header}
use Rattle.table.specs.Ready.{Ready}
use Rattle.search.specs.declared.Question.{Question}
use Rattle.search.specs.Search.{ranked_pairs, pair_rounds, flagged}
use Rattle.product.specs.Kept.{kept_filled}
use Rattle.compatibility.specs.Contract.{compatibility_question}
use Rattle.compatibility.proofs.Answers.{decide_verdict, decide_rounds, decide_ranks}
use Rattle.composition.specs.declared.Composition.{Composition}
use Rattle.composition.specs.Contract.{composed_of}
use Rattle.composition.proofs.Cells.{composition-cells}

module _ (p q : Table) (g : Question) (ranks ranks' cells flags flags' : List ℕ) (r : Ready p q (length flags)) (long : length ranks ≡ length flags)
    (wide : length cells ≡ length flags * 32) (asked : g ≡ compatibility_question p.header q.header)
    (ranked : ranks' ≡ ranked_pairs g p q ranks) (written : flags' ≡ flagged ranks' flags) where
  pub join_reply : (h : Automaton) (b : Bool) (c : ℕ) → c ≡ pair_rounds g p q (length ranks) → h ≡ product_header p.header q.header
      → b ≡ eqb (get_or flags' h.initial 0) 1
      → ◌≡◌ {A = Composition} (record { compatible = b; header = h; rounds = c }) (composed_of p q)
  unfolding composition
  join_reply h b c counted headed told =
      rw (decide_verdict p q g ranks ranks' flags flags' r long asked ranked written h.initial b (ap (λ x. x.initial) headed) told, decide_rounds p q g ranks ranks' flags flags' r long asked ranked written c counted, headed) refl

  pub join_cells : (cells' : List ℕ) → cells' ≡ kept_filled ranks' p q cells → cells' ≡ (composition p q).cells
  join_cells cells' e =
      e
      ∙ ap (λ l. kept_filled l p q cells) (decide_ranks p q g ranks ranks' flags flags' r long asked ranked written)
      ∙ composition-cells p q (length flags) r cells wide
