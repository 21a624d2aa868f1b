-- The worked examples of K13, and further ones.
use Rattle.std.specs.Prelude.{List, [], ◌∷◌, ◌++◌, ℕ}
use Prim.Native.String.{String}
use Rattle.rules.specs.Answers.{Said, says}
use Rattle.rules.specs.Bytes.{bytes}
use Rattle.commit.specs.Answers.{line_answer, message_answer}

-- a call on a content, and its answer
pub data Example : Type 0 where
  line : ℕ → List ℕ → Said → Example
  message : List ℕ → Said → Example

abbrev pub wanted : Example → Said
wanted (line k content said) = said
wanted (message content said) = said

abbrev pub ruled : Example → Said
ruled (line k content said) = line_answer content k
ruled (message content said) = message_answer content

-- $40 and $64, each with what stands before and behind it
abbrev pub forty : String → List ℕ → List ℕ
forty before behind = bytes before ++ (bytes "0123456789abcdef0123456789abcdef01234567" ++ behind)

abbrev pub sixty_four : String → List ℕ → List ℕ
sixty_four before behind = bytes before ++ (bytes "0123456789abcdef0123456789abcdef0123456789abcdef0123456789abcdef" ++ behind)

abbrev parts : ℕ → ℕ → ℕ → ℕ → Said
parts a b c d = says 0 (a ∷ b ∷ c ∷ d ∷ [])

abbrev end : Said
end = says 0 []

abbrev bad : ℕ → Said
bad number = says 13 (number ∷ [])

-- K13.1 to K13.8
unfoldable pub table : List Example
table =
    line 2 (forty "tree " (bytes "\nauthor \ncommitter \n\n")) (parts 54 63 64 64) ∷
    line 3 (forty "tree " (bytes "\nauthor \ncommitter \ngpgsig a\n \n  b\n\nm")) (parts 65 71 72 79) ∷
    line 4 (forty "tree " (bytes "\nauthor \ncommitter \ngpgsig a\n \n  b\n\nm")) end ∷
    line 0 (forty "tree " (bytes "\nauthor \ncommitter \nx\n\nm")) (bad 3) ∷
    line 0 (forty "tree " (sixty_four "\nparent " (bytes "\nauthor \ncommitter \n\n"))) (bad 1) ∷
    line 0 (forty "tree " (bytes "\nauthor \ncommitter \n")) (bad 3) ∷
    line 0 (forty "tree " (bytes "\nauthor \ncommitter \nx y")) (bad 3) ∷
    line 0 (forty "tree " (bytes "\nauthor \ncommitter \nx y\n z\nq\n\n")) (bad 4) ∷
    []

-- further ones: smallest contents at each way in which a header is not good, both lengths of identifiers, and messages
unfoldable pub others : List Example
others =
    line 0 (bytes "") (bad 0) ∷
    line 0 (bytes "\n") (bad 0) ∷
    line 0 (bytes "\n\n") (bad 0) ∷
    line 0 (forty "tree " (bytes "\n\n")) (bad 1) ∷
    line 0 (forty "tree " []) (bad 0) ∷
    line 0 (forty "tree " (bytes "\n z\n")) (bad 0) ∷
    line 0 (bytes " z\n") (bad 0) ∷
    line 0 (bytes " z") (bad 0) ∷
    line 0 (sixty_four "tree " (bytes "\nauthor \ncommitter \n\n")) (parts 0 4 5 69) ∷
    line 1 (sixty_four "tree " (sixty_four "\nparent " (sixty_four "\nparent " (bytes "\nauthor a <b> 1 +0000\ncommitter \n\n\nm")))) (parts 70 76 77 141) ∷
    line 2 (sixty_four "tree " (sixty_four "\nparent " (sixty_four "\nparent " (bytes "\nauthor a <b> 1 +0000\ncommitter \n\n\nm")))) (parts 142 148 149 213) ∷
    line 0 (forty "tree " (bytes "\nauthor\ncommitter \n\n")) (bad 1) ∷
    line 0 (bytes "tree \nauthor \ncommitter \n\n") (bad 0) ∷
    line 0 (forty "tree " (bytes "a\nauthor \ncommitter \n\n")) (bad 0) ∷
    line 0 (bytes "tree 0123456789ABCDEF0123456789abcdef01234567\nauthor \ncommitter \n\n") (bad 0) ∷
    line 0 (forty "tree " (bytes "\nauthor \nauthor \ncommitter \n\n")) (bad 2) ∷
    line 0 (forty "tree " (bytes "\nauthor \n z\ncommitter \n\n")) (bad 1) ∷
    line 0 (forty "tree " (bytes "\nauthor \ncommitter \n z\n\n")) (bad 2) ∷
    line 0 (forty "tree " (forty "\nauthor \ncommitter \ntree " (bytes "\n\n"))) (bad 3) ∷
    line 0 (forty "tree " (bytes "\nauthor \ncommitter \ncommitter \n\n")) (bad 3) ∷
    line 3 (forty "tree " (bytes "\nauthor \ncommitter \nx \r\n\n")) (parts 65 66 67 68) ∷
    line 0 (forty "tree " (bytes "\nauthor \ncommitter \n\r\n")) (bad 3) ∷
    line 3 (forty "tree " (bytes "\nauthor \ncommitter \ntrees  y\n\n")) (parts 65 70 71 73) ∷
    line 4 (forty "tree " (bytes "\nauthor \ncommitter \nx y\nx z\n\n")) (parts 69 70 71 72) ∷
    line 9 (forty "tree " (bytes "\nauthor \ncommitter \nx y\nx z\n\n")) end ∷
    line 0 (forty "tree " (bytes "\nauthor \ncommitter \nx y\n z")) (bad 3) ∷
    line 0 (forty "tree " (bytes "\nauthor \ncommitter \nx y\n z\n")) (bad 4) ∷
    line 0 (forty "tree " (bytes "\nauthor \ncommitter \nx y\n\tz\n\n")) (bad 4) ∷
    line 0 (forty "parent " (bytes "\n")) (bad 0) ∷
    line 0 (forty "tree  " (bytes "\n")) (bad 0) ∷
    line 0 (forty "tree " (bytes " \n")) (bad 0) ∷
    message (forty "tree " (bytes "\nauthor \ncommitter \n\n")) (says 0 (66 ∷ 66 ∷ [])) ∷
    message (forty "tree " (bytes "\nauthor \ncommitter \ngpgsig a\n \n  b\n\nm")) (says 0 (81 ∷ 82 ∷ [])) ∷
    message (forty "tree " (bytes "\nauthor \ncommitter \n\n\nm\n\n")) (says 0 (66 ∷ 70 ∷ [])) ∷
    message (forty "tree " (bytes "\nauthor \ncommitter \n \n\nm")) (bad 2) ∷
    message (forty "tree " (bytes "\nauthor \ncommitter \nx\n\nm")) (bad 3) ∷
    []
