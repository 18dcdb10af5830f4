-- The kinds of opens, by the objects that they have: our own.
use Rattle.std.specs.Prelude.{◌≡◌, ℕ, [], Option, Some, None}
use Rattle.nb_nodes.specs.declared.obj.Obj.{Obj}
use Rattle.nb_nodes.specs.Standing.{ObjStands}
use Rattle.nb_opens.specs.Pairs.{IsNewTftp}
use Rattle.nb_chains.specs.declared.kind.ChainKind.{ChainKind}
use Rattle.nb_chains.specs.declared.kind.ChainKind.TheVariants.{File, Name, Lease, Echo, Drive}

-- the number of the top object's kind, its rank, and its mark as long as nothing was asked of it
abbrev pub top_number : ChainKind → ℕ
top_number File = 1
top_number Name = 5
top_number Lease = 6
top_number Echo = 7
top_number Drive = 9

abbrev pub top_rank : ChainKind → ℕ
top_rank File = 5
top_rank Name = 2
top_rank Lease = 2
top_rank Echo = 5
top_rank Drive = 5

abbrev pub top_mark : ChainKind → ℕ
top_mark File = 0
top_mark Name = 5
top_mark Lease = 6
top_mark Echo = 7
top_mark Drive = 9

-- a new Tftp for a file, and nothing for the others
abbrev pub IsLowerOf : ChainKind → Option Obj → Type 0
IsLowerOf File None = ⊥
IsLowerOf File (Some n) = ObjStands n [] × IsNewTftp n
IsLowerOf Name lower = lower ≡ None
IsLowerOf Lease lower = lower ≡ None
IsLowerOf Echo lower = lower ≡ None
IsLowerOf Drive lower = lower ≡ None

-- how many objects such an open has below its top one
abbrev pub count_below : ChainKind → ℕ
count_below File = 1
count_below Name = 0
count_below Lease = 0
count_below Echo = 0
count_below Drive = 0
