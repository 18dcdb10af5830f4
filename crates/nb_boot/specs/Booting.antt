-- What is said of a command that boots: what stands after its RESULT, where nothing is closed then, and which PARTs are a disk's.
use Rattle.std.specs.Prelude.{◌≡◌, ℕ, List, [], ◌∷◌, ◌++◌}
use Rattle.nb_defs.specs.Records.{Out, part}
use Rattle.nb_laws.specs.Endings.{ClosesToBoot, ClosesToBootDisk}
use Rattle.nb_laws.specs.Events.{Event}
use Rattle.nb_laws.specs.HandOff.{HandsDiskOff}
use Rattle.nb_laws.specs.Hookings.{hooked_drives}
use Rattle.nb_laws.specs.Lists.{live}
use Rattle.nb_laws.specs.Silence.{AreSilent}

-- where no drive is hooked as a command boots, no FRAME stands after its RESULT
abbrev pub BootsSilently : List Event → Type 0
BootsSilently es = (booted : ClosesToBoot es) → hooked_drives booted.before ≡ [] → AreSilent booted.since

-- nor where a command boots a disk whose open has ended by then
abbrev pub BootsDiskSilently : List Event → Type 0
BootsDiskSilently es = (booted : ClosesToBootDisk es) → hooked_drives booted.before ≡ [] → live booted.number booted.before ≡ [] → AreSilent booted.since

-- each PART of a drive's first block is of the hand-off of the disk that a command boots
abbrev pub SectorsAreBooted : List Event → List Out → Type 0
SectorsAreBooted es outs = (front behind : List Out) (index offset : ℕ) (bytes : List ℕ) → outs ≡ front ++ part 4 index offset bytes ∷ behind → (rest : List Out) × HandsDiskOff es outs rest
