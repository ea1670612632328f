-- What is read off the search's ranks is theory's composition.
use mathlib.Core.Path.{◌≡◌, refl, ap, ap₂, ◌∙◌}
use mathlib.Core.Bool.{Bool, not}
use mathlib.Core.List.{List}
use Prim.Native.Nat.{ℕ, ◌<◌, ◌*◌, ◌≤◌}
use lib.Dec.{eqb}
use lib.ListN.{get_or, length}
use Rattle.theory.specs.declared.Automaton.{Automaton}
use Rattle.theory.specs.Bounded.{digit, tabulate}
use Rattle.theory.specs.Closure.{ranked}
use Rattle.theory.specs.Closure as closures
use Rattle.theory.specs.Numbered.{pair, incompatibility}
use Rattle.theory.specs.Table.{Table, table, automaton, composition, pair_count}
use Rattle.table.specs.Ready.{Ready}
use Rattle.table.proofs.ReadySizes.{start-below}
use Rattle.search.specs.Ranks.{encoded}
use Rattle.search.specs.declared.Question.{Question}
use Rattle.search.specs.Search.{pair_ranks, ranked_pairs, pair_rounds, flagged}
use Rattle.search.proofs.Meaning.{ranked-all, rounds-all, flags-are, verdict-is}
use Rattle.compatibility.specs.declared.Compatibility.{Compatibility}
use Rattle.compatibility.specs.Contract.{compatibility_question, decided_of}
use Rattle.compatibility.proofs.Laws.{ranks-are}

-- The initial pair.
abbrev start : Table → Table → ℕ
start p q = pair q.header.states p.header.initial q.header.initial

pub initial-below : (a b : Automaton) (ca cb : List ℕ) (n : ℕ) → Ready (table a ca) (table b cb) n → (pair b.states a.initial b.initial < a.states * b.states) × (a.states * b.states ≤ 4096)
initial-below a b ca cb n r = (start-below (table a ca) (table b cb) n r, r.few)

module _ (p q : Table) (n : ℕ) (r : Ready p q n) where
  abbrev g : Question
  g = compatibility_question p.header q.header

  -- The ranks of the pairs in 16 bits.
  abbrev codes : List ℕ
  codes = encoded (pair_count p q) (pair_ranks g p q)

  rounds-are : closures.rounds (pair_count p q) (pair_ranks g p q) ≡ (composition p q).rounds
  unfolding composition
  rounds-are = ap (closures.rounds (pair_count p q)) (ranks-are p q)

  module _ (g' : Question) (asked : g' ≡ g) (ranks : List ℕ) (long : length ranks ≡ n) where
    pub ranked_alone : ranked_pairs g' p q ranks ≡ codes
    ranked_alone = rw asked (ranked-all g p q n r ranks long)

    pub rounds_alone : (c : ℕ) → c ≡ pair_rounds g' p q (length ranks) → c ≡ (composition p q).rounds
    rounds_alone c e = e ∙ rw asked (rounds-all g p q n r ranks long) ∙ rounds-are

  module _ (flags : List ℕ) (long : length flags ≡ n) where
    pub flags-composed : flagged codes flags ≡ (composition p q).flags
    unfolding composition
    flags-composed =
        flags-are g p q n r flags long ∙ ap (λ l. tabulate (λ k. digit (not (ranked l k))) 0 (pair_count p q)) (ranks-are p q)

    pub verdict-composed : eqb (get_or (flagged codes flags) (start p q) 0) 1 ≡ (composition p q).compatible
    unfolding composition
    verdict-composed =
        verdict-is g p q n r flags long
        ∙ ap (λ l. not (ranked l (start p q))) (ranks-are p q)

module _ (p q : Table) (g : Question) (ranks ranks' flags flags' : List ℕ) (r : Ready p q (length flags)) (long : length ranks ≡ length flags)
    (asked : g ≡ compatibility_question p.header q.header) (ranked : ranks' ≡ ranked_pairs g p q ranks) (written : flags' ≡ flagged ranks' flags) where
  flags_now : flags' ≡ flagged (codes p q (length flags) r) flags
  flags_now = written ∙ ap (λ l. flagged l flags) (ranked ∙ ranked_alone p q (length flags) r g asked ranks long)

  pub decide_flags : flags' ≡ (composition p q).flags
  decide_flags = flags_now ∙ flags-composed p q (length flags) r flags refl

  -- The verdict by the flag of the initial pair, and the rounds.
  pub decide_verdict : (k : ℕ) (b : Bool) → k ≡ start p q → b ≡ eqb (get_or flags' k 0) 1 → b ≡ (composition p q).compatible
  decide_verdict k b at told =
      told ∙ ap₂ (λ l x. eqb (get_or l x 0) 1) flags_now at ∙ verdict-composed p q (length flags) r flags refl

  pub decide_rounds : (c : ℕ) → c ≡ pair_rounds g p q (length ranks) → c ≡ (composition p q).rounds
  decide_rounds = rounds_alone p q (length flags) r g asked ranks long

  pub decide_ranks : ranks' ≡ encoded (pair_count p q) (incompatibility (automaton p) (automaton q) 32)
  decide_ranks = ranked ∙ ranked_alone p q (length flags) r g asked ranks long ∙ ap (encoded (pair_count p q)) (ranks-are p q)

  pub decide_reply : (b : Bool) (c : ℕ) → c ≡ pair_rounds g p q (length ranks) → b ≡ eqb (get_or flags' (start p q) 0) 1 → ◌≡◌ {A = Compatibility} (record { compatible = b; rounds = c }) (decided_of p q)
  decide_reply b c counted told = ap₂ (λ v n. record { compatible = v; rounds = n }) (decide_verdict (start p q) b refl told) (decide_rounds c counted)
