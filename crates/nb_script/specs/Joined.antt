-- Own: lines of a text after joining, the last of which may be open.
use Rattle.std.specs.Prelude.{◌≡◌, ℕ, zero, suc, ◌+◌, ◌==◌, List, [], ◌∷◌, ◌++◌, length, if◌then◌else◌}

-- the lines so far, what the open line has, and how many lines of the text it takes, 0 where none is open
pub record Joined : Type 0 where
  pub lines : List (List ℕ)
  pub front : List ℕ
  pub held : ℕ

abbrev pub no_lines : Joined
no_lines = record { lines = []; front = []; held = 0 }

-- how many lines of the text were taken
abbrev pub size_of : Joined → ℕ
size_of j = length j.lines + j.held

-- where no line is open, nothing is held
abbrev pub IsBegun : Joined → Type 0
IsBegun j = j.held ≡ 0 → j.front ≡ []

-- a line and empty ones after it, so many in all
abbrev pub closed : ℕ → List ℕ → List (List ℕ)
closed zero front = []
closed (suc held) front = front ∷ closed held []

-- what an open line becomes with these lines after it
abbrev pub resumed : ℕ → List ℕ → List (List ℕ) → List (List ℕ)
resumed held front [] = closed held front
resumed held front (line ∷ behind) = closed (suc held) (front ++ line) ++ behind

-- all lines, with these after what was taken
abbrev pub lines_before : Joined → List (List ℕ) → List (List ℕ)
lines_before j behind = j.lines ++ resumed j.held j.front behind

-- what stands after the last line feed is a line where it isn't empty
abbrev pub last_line : List ℕ → List (List ℕ)
last_line rest = if length rest == 0 then [] else rest ∷ []
