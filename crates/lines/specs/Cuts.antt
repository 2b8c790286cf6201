-- A trace as its lines. 0A ends a line, and so does the end of the trace; the end at the start, or
-- right after a 0A, makes none. An empty line is a line.
use Rattle.std.specs.Prelude.{ℕ, cond, List, [], ◌∷◌, ◌++◌, ◌==◌}

abbrev pub last_line : List ℕ → List (List ℕ)
last_line [] = []
last_line (c ∷ cs) = (c ∷ cs) ∷ []

-- the lines of what is left, where the first of them has begun already
unfoldable pub lines_from : List ℕ → List ℕ → List (List ℕ)
lines_from begun [] = last_line begun
lines_from begun (c ∷ cs) = cond (c == 10) (begun ∷ lines_from [] cs) (lines_from (begun ++ (c ∷ [])) cs)

unfoldable pub lines : List ℕ → List (List ℕ)
lines trace = lines_from [] trace
