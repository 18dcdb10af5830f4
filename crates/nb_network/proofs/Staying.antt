-- An open stays what it is where others change, and so does what waits.
use Rattle.std.proofs.Common.{◌≡◌, ℕ, ◌≤◌, true}
use Rattle.nb_graph.specs.Noded.{AreNoded}
use Rattle.nb_graph.specs.Whole.{Objects}
use Rattle.nb_frames.specs.Frames.{is_one_of, KeepsObject}
use Rattle.nb_nodes.specs.declared.obj.Obj.{Obj}
use Rattle.nb_nodes.specs.Objects.{rank_of_obj}
use Rattle.nb_machine.specs.Lives.{Live}
use Rattle.nb_chains.specs.declared.chain.Chain.{Chain}
use Rattle.nb_chains.specs.declared.kind.ChainKind.{ChainKind}
use Rattle.nb_chains.specs.Chains.{Awaits}
use Rattle.nb_chains.specs.Kinds.{top_mark, top_rank}
use Rattle.nb_chains.proofs.FreshOnes.{fresh_kept}
use Rattle.nb_chains.proofs.Staying.{stays}
use Rattle.nb_network.specs.declared.living.Living.{Living}
use Rattle.nb_network.specs.Many.{IsLivingOf, bare_open}
use Rattle.nb_open.specs.Objects.{objects_ids}
use Rattle.nb_open.proofs.Keepings.{open_stays as stays_chained}
use Rattle.nb_network.proofs.Hearing.{bare_is, living_is}

-- an open whose objects stay as they are stays what it is
pub open_stays : (g h : Objects Obj) (o : Living) (l : Live) → AreNoded rank_of_obj h → ((x : ℕ) → is_one_of (objects_ids o.objects) x ≡ true → KeepsObject g h x) → g.book.made ≤ h.book.made → IsLivingOf g o l → IsLivingOf h o l
open_stays g h o l noded kept later i = living_is (stays_chained g h (bare_open o) l (stays (objects_ids o.objects) g h noded i.chained kept later) (bare_is i)) i.drive

-- what waits waits on
pub waits_on : (kind : ChainKind) (c : Chain) (g h : Objects Obj) → KeepsObject g h c.top.0 → g.book.made ≤ h.book.made → Awaits kind c g → Awaits kind c h
waits_on kind c g h kept later w = record { alone = w.alone; fresh = fresh_kept g h c.top.0 (top_rank kind) (top_mark kind) w.fresh kept later }
