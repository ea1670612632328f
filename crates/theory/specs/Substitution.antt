-- A better part in the same place (S-13 of document 02, "02" below): for all accepted tables at any number of pairs, and over what the calls give.
use Rattle.std.specs.Prelude.{◌≡◌, ◌↔◌, cond, ℕ, ◌*◌, ◌/◌, ◌%◌, ◌<◌, T, eqb, get_or}
use Rattle.theory.specs.declared.Automaton.{Automaton}
use Rattle.std.specs.Prelude.{Ok}
use Rattle.theory.specs.Interface.{InterfaceAutomaton, CompatiblePair, Compatible, compose, Refinement}
use Rattle.theory.specs.Numbered.{interface, pair}
use Rattle.theory.specs.Table.{header, Table, automaton, cell_at, composition, composed_table, refinement}
use Rattle.theory.specs.Checks.{first, composition_checks, refinement_checks}
use Rattle.theory.specs.Valid.{Valid, ValidTables, ComposableTables}

-- ---- interface automata

-- X and Y have the same lists.
pub record SameLists (X Y : InterfaceAutomaton) : Type 0 where
  pub inputs : (a : ℕ) → X.input a ≡ Y.input a
  pub outputs : (a : ℕ) → X.output a ≡ Y.output a

-- X takes the place of Y beside Z: X fits Z, and X composed with Z refines Y composed with Z.
pub record Replaces (X Y Z : InterfaceAutomaton) : Type 0 where
  pub compatible : Compatible X Z
  pub refines : Refinement (compose X Z) (compose Y Z)

abbrev pub swap : {A B : Type 0} → A × B → B × A
swap s = (s.1, s.0)

-- Composing Z with Y gives the composition of Y with Z, pairs swapped: the lists are the same; the first pair, the compatible pairs (01: kept) and the
-- steps are those of the swapped pairs.
pub record Commutes (Y Z : InterfaceAutomaton) : Type 0 where
  pub lists : SameLists (compose Z Y) (compose Y Z)
  pub initial : (compose Z Y).initial ≡ swap (compose Y Z).initial
  pub compatible : (s : Y.State × Z.State) → CompatiblePair Z Y (swap s) ↔ CompatiblePair Y Z s
  pub steps : (s : Y.State × Z.State) (a : ℕ) (t : Y.State × Z.State) → (compose Z Y).step (swap s) a (swap t) ↔ (compose Y Z).step s a t

-- ---- the rules

-- All accepted tables obey the law: checks 1 to 6 are its only premise, neither 7 nor a bound on the pairs is.
abbrev pub Holds : (Table → Table → Table → Type 0) → Type 0
Holds law = (x y z : Table) → Valid x → Valid y → Valid z → law x y z

abbrev pub interface_of : Table → InterfaceAutomaton
interface_of t = interface (automaton t)

module _ (x y z : Table) where
  abbrev X : InterfaceAutomaton
  X = interface_of x

  abbrev Y : InterfaceAutomaton
  Y = interface_of y

  abbrev Z : InterfaceAutomaton
  Z = interface_of z

  -- The laws of S-13.
  pub record SubstitutionLaws : Type 0 where
    -- 001, Theorem 3: refinement is reflexive and passes along a chain.
    pub reflexive : Refinement X X
    pub transitive : Refinement X Y → Refinement Y Z → Refinement X Z
    -- If X refines Y, both have the same lists, and Y fits Z, then X takes the place of Y beside Z (001, Theorem 4, with 02's condition on the lists).
    pub substitution : Refinement X Y → SameLists X Y → Compatible Y Z → Replaces X Y Z
    pub commutative : Commutes Y Z

  -- `substitution` without one of its premises, concluding only that X fits Z.
  abbrev pub WithoutRefinement : Type 0
  WithoutRefinement = SameLists X Y → Compatible Y Z → Compatible X Z

  abbrev pub WithoutSameInputs : Type 0
  WithoutSameInputs = Refinement X Y → ((a : ℕ) → X.output a ≡ Y.output a) → Compatible Y Z → Compatible X Z

  abbrev pub WithoutSameOutputs : Type 0
  WithoutSameOutputs = Refinement X Y → ((a : ℕ) → X.input a ≡ Y.input a) → Compatible Y Z → Compatible X Z

  abbrev pub WithoutFit : Type 0
  WithoutFit = Refinement X Y → SameLists X Y → Compatible X Z

-- Every premise of `substitution` is needed.
pub record PremisesNeeded : Type 0 where
  pub refines : ¬ Holds WithoutRefinement
  pub same_inputs : ¬ Holds WithoutSameInputs
  pub same_outputs : ¬ Holds WithoutSameOutputs
  pub compatible : ¬ Holds WithoutFit

-- ---- the calls: S-13 over the values of theory that contracts equate replies and buffers with, and over the ranks of pairs

-- No check refuses refine on x and y, lent as many marks as `marks` says.
pub record RefineAccepts (x y : Table) : Type 0 where
  pub marks : ℕ
  pub accepted : first (refinement_checks x y marks) ≡ Ok tt

-- No check refuses compose on y and z, lent as many cells and flags as `cells` and `flags` say.
pub record ComposeAccepts (y z : Table) : Type 0 where
  pub cells : ℕ
  pub flags : ℕ
  pub accepted : first (composition_checks y z cells flags) ≡ Ok tt

-- Refine accepts exactly the accepted tables of at most 4,096 pairs, compose those among them that have no output in common.
pub record AcceptedCalls (x y : Table) : Type 0 where
  pub refine : RefineAccepts x y ↔ ValidTables x y
  pub compose : ComposeAccepts x y ↔ ComposableTables x y

-- The verdicts say that x takes the place of y beside z. (The two compositions may still be too large for a call of refine: 9.)
pub record ReplacesByCalls (x y z : Table) : Type 0 where
  pub compatible : T (composition x z).compatible
  pub refines : T (refinement (composed_table x z) (composed_table y z)).refines

-- The number of the pair (q, p), where k is the number of (p, q), p is one of m states and q one of n.
abbrev pub swapped_pair : ℕ → ℕ → ℕ → ℕ
swapped_pair m n k = pair m (k % n) (k / n)

-- A cell that leads to the swapped pair; 65,535 stays.
abbrev pub swapped_cell : ℕ → ℕ → ℕ → ℕ
swapped_cell m n cell = cond (eqb cell 65535) 65535 (swapped_pair m n cell)

-- The first pair is swapped; the number of states and the lists stay.
abbrev pub swapped_header : ℕ → ℕ → Automaton → Automaton
swapped_header m n h = header h.states (swapped_pair m n h.initial) h.inputs h.outputs

module _ (y z : Table) where
  abbrev m : ℕ
  m = y.header.states

  abbrev n : ℕ
  n = z.header.states

  -- Compose accepts (z, y) too, and gives what it gives for (y, z), pairs swapped.
  pub record CommutesByCalls : Type 0 where
    pub accepted : ComposeAccepts z y
    pub compatible : (composition z y).compatible ≡ (composition y z).compatible
    pub header : (composition z y).header ≡ swapped_header m n (composition y z).header
    pub rounds : (composition z y).rounds ≡ (composition y z).rounds
    pub ranks : (k : ℕ) → k < m * n → get_or (composition z y).ranks (swapped_pair m n k) 65535 ≡ get_or (composition y z).ranks k 65535
    pub flags : (k : ℕ) → k < m * n → get_or (composition z y).flags (swapped_pair m n k) 0 ≡ get_or (composition y z).flags k 0
    pub cells : (k a : ℕ) → k < m * n → a < 32
        → cell_at (composed_table z y) (swapped_pair m n k) a ≡ swapped_cell m n (cell_at (composed_table y z) k a)

-- The laws of S-13 for all tables x, y and z, where no check refuses the calls named.
pub record SubstitutionByCalls (x y z : Table) : Type 0 where
  pub reflexive : RefineAccepts x x → T (refinement x x).refines
  pub transitive : RefineAccepts x y → RefineAccepts y z → T (refinement x y).refines → T (refinement y z).refines → T (refinement x z).refines
  -- x may have more states than y, so that compose refuses (x, z) by 9: that it does not is a premise.
  pub substitution : RefineAccepts x y → ComposeAccepts y z → ComposeAccepts x z
      → T (refinement x y).refines → SameLists (interface_of x) (interface_of y) → T (composition y z).compatible → ReplacesByCalls x y z
  pub commutative : ComposeAccepts y z → CommutesByCalls y z

-- Kept pairs do change places: the pair of the same number need not be kept after the swap.
abbrev pub PairsMove : Type 0
PairsMove = ¬ ((y z : Table) → ComposeAccepts y z → (composition z y).flags ≡ (composition y z).flags)
