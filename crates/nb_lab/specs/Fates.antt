-- Own: what becomes of a frame by its number, counted from 1, and which frames come to the client as one is sent. A frame
-- whose number is divisible by 7 is lost. Else one divisible by 11 comes twice, and one divisible by 13 comes after the next
-- frame that isn't lost.
use Rattle.std.specs.Prelude.{ℕ, ◌+◌, ◌-◌, ◌%◌, ◌==◌, Bool, false, List, [], ◌∷◌, ◌++◌, Option, Some, None, if◌then◌else◌}
use Rattle.std.specs.List.{flat_map, range_with_len}
use Rattle.std.specs.Option.{option_map_or}
use Rattle.nb_lab.specs.declared.fate.Fate.{Fate}
use Rattle.nb_lab.specs.declared.fate.Fate.TheVariants.{Lost, OnTime, Late}

abbrev pub is_lost : ℕ → Bool
is_lost n = n % 7 == 0

abbrev pub is_late : ℕ → Bool
is_late n = if is_lost n then false else n % 13 == 0

abbrev pub comes_twice : ℕ → Bool
comes_twice n = n % 11 == 0

unfoldable pub fate : ℕ → Fate
fate n = if n % 7 == 0 then Lost else (if n % 13 == 0 then Late (comes_twice n) else OnTime (comes_twice n))

-- once, or twice
abbrev pub times : {A : Type 0} → Bool → A → List A
times twice x = if twice then x ∷ x ∷ [] else x ∷ []

-- a frame, as often as it comes
abbrev pub copies : ℕ → List ℕ
copies n = times (comes_twice n) n

-- the last frame before that of a number that isn't lost: no two numbers in a row are divisible by 7
abbrev pub last_before : ℕ → ℕ
last_before n = if is_lost (n - 1) then n - 2 else n - 1

-- a frame, where it is late
abbrev pub if_late : ℕ → Option ℕ
if_late n = if is_late n then Some n else None

-- what comes as a frame that isn't lost is sent: it, unless it is late, and then the last one before it, where that one is late
unfoldable pub come_with : ℕ → List ℕ
come_with n =
    if is_lost n then []
    else ((if is_late n then [] else copies n) ++ option_map_or copies (if_late (last_before n)) [])

-- the numbers of the frames that have come once so many were sent, in order
unfoldable pub frames_arrived : ℕ → List ℕ
frames_arrived n = flat_map come_with (range_with_len 1 n)

-- the one that is late still
unfoldable pub late_after : ℕ → Option ℕ
late_after n = if_late (last_before (n + 1))
