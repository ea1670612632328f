-- The lines that the programs print: of a refusal and of a result (01, "The program and one full run"), and of a clash (02, S-9).
use Rattle.std.specs.Prelude.{Bool, cond, List, [], ◌∷◌, ℕ}
use Rattle.text.specs.declared.Clash.{Clash}
use Rattle.text.specs.Writing.{decimal, printed}
use Rattle.theory.specs.declared.Rule.{Rule}
use Rattle.theory.specs.Rules.{rule_number}

-- ---- words

-- `verdict`.
abbrev pub verdict_word : List ℕ
verdict_word = 118 ∷ 101 ∷ 114 ∷ 100 ∷ 105 ∷ 99 ∷ 116 ∷ []

-- `yes`.
abbrev pub yes_word : List ℕ
yes_word = 121 ∷ 101 ∷ 115 ∷ []

-- `none`.
abbrev pub none_word : List ℕ
none_word = 110 ∷ 111 ∷ 110 ∷ 101 ∷ []

-- `pairs`.
abbrev pub pairs_word : List ℕ
pairs_word = 112 ∷ 97 ∷ 105 ∷ 114 ∷ 115 ∷ []

-- `kept`.
abbrev pub kept_word : List ℕ
kept_word = 107 ∷ 101 ∷ 112 ∷ 116 ∷ []

-- `rounds`.
abbrev pub rounds_word : List ℕ
rounds_word = 114 ∷ 111 ∷ 117 ∷ 110 ∷ 100 ∷ 115 ∷ []

-- `steps`.
abbrev pub steps_word : List ℕ
steps_word = 115 ∷ 116 ∷ 101 ∷ 112 ∷ 115 ∷ []

-- `ends`.
abbrev pub ends_word : List ℕ
ends_word = 101 ∷ 110 ∷ 100 ∷ 115 ∷ []

-- `refused`.
abbrev pub refused_word : List ℕ
refused_word = 114 ∷ 101 ∷ 102 ∷ 117 ∷ 115 ∷ 101 ∷ 100 ∷ []

-- ---- lines

-- A refusal prints one line: file (1 module, 2 plan, 0 both or the result), number, line.
unfoldable pub refusal_text : ℕ → ℕ → ℕ → List ℕ
refusal_text file number line = printed ((refused_word ∷ decimal file ∷ decimal number ∷ decimal line ∷ []) ∷ [])

-- The same, by the rule that is broken.
abbrev pub rule_text : ℕ → Rule → ℕ → List ℕ
rule_text file k line = refusal_text file (rule_number k) line

-- A clash prints one line: file and line of the later name, then of the first that it clashes with.
abbrev pub clash_row : Clash → List (List ℕ)
clash_row c = decimal c.later.text ∷ decimal c.later.line ∷ decimal c.first.text ∷ decimal c.first.line ∷ []

unfoldable pub clash_text : Clash → List ℕ
clash_text c = printed (clash_row c ∷ [])

-- The six lines. Steps and ends are over all pairs, with either verdict.
unfoldable pub figures : Bool → ℕ → ℕ → ℕ → ℕ → ℕ → List ℕ
figures compatible pairs kept rounds steps ends = printed (
    (verdict_word ∷ cond compatible yes_word none_word ∷ []) ∷ (pairs_word ∷ decimal pairs ∷ []) ∷ (kept_word ∷ decimal kept ∷ [])
    ∷ (rounds_word ∷ decimal rounds ∷ []) ∷ (steps_word ∷ decimal steps ∷ []) ∷ (ends_word ∷ decimal ends ∷ []) ∷ [])

-- ---- parts of the six lines

-- The first of the six lines.
abbrev pub verdict_text : Bool → List ℕ
verdict_text compatible = printed ((verdict_word ∷ cond compatible yes_word none_word ∷ []) ∷ [])

-- A line of a word and a number.
abbrev pub figure_text : List ℕ → ℕ → List ℕ
figure_text word n = printed ((word ∷ decimal n ∷ []) ∷ [])
