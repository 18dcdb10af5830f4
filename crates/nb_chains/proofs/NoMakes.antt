-- No object of an open asks for a make.
use Rattle.std.proofs.Common.{◌≡◌, ℕ, Bool, true, false, not, List, [], ◌∷◌, ◌++◌, None}
use Rattle.nb_effects.specs.declared.effects.Fx.{Fx}
use Rattle.nb_graph.specs.Trace.{Said, NodeEntry, up, down, closed, time, regain}
use Rattle.nb_graph.specs.Deeds.{Deed, writes, begins, calls, turns, trace_after}
use Rattle.nb_graph.specs.Hosts.{Stood}
use Rattle.nb_frames.specs.Within.{AsksNoMake, MakesNone}
use Rattle.nb_nodes.specs.declared.load.Load.{Load}
use Rattle.nb_nodes.specs.declared.obj.Obj.{Obj}
use Rattle.nb_nodes.specs.declared.obj.Obj.TheVariants as obj
use Rattle.nb_nodes.specs.Conversations.{Conversation, Continues, RunsTo, begins as it_begins, receives, ticks, ends, rests, AsksOfIdle}
use Rattle.nb_nodes.specs.Exchanges.{Service, AskerState, AskerTakes, AskerLeadsTo, is_begun, takes_message, takes_time, is_ended, stays_idle}
use Rattle.nb_nodes.specs.Fetches.{EachOf, AsksOfFetch, AsksOfUp, brings_move}
use Rattle.nb_nodes.specs.Standing.{ObjStands}
use Rattle.nb_chains.proofs.DriveMakes.{session_last, unit_last}
use Rattle.nb_chains.proofs.StreamMakes.{web_last, conn_last}

false_not : (b : Bool) → not b ≡ true → b ≡ true → ⊥
false_not true h e = let z = h in cc
false_not false h e = let z = e in cc

each_last : (t before : List (NodeEntry Obj Load)) (e : NodeEntry Obj Load) → EachOf AsksOfFetch before (t ++ e ∷ []) → (b : List (NodeEntry Obj Load)) × AsksOfFetch b e
each_last [] before e h = (before, h.0)
each_last (d ∷ t) before e h = each_last t (before ++ d ∷ []) e h.1

up_makes : (move going : Bool) (before slot : ℕ) (m : Said) (fx : Fx Obj Load) → AsksOfUp move going before slot m fx → fx.makes ≡ None
up_makes true going before slot m fx h = h.sends.no_make
up_makes false going before slot m fx h = h.sends.no_make

fetch_makes : (before : List (NodeEntry Obj Load)) (e : NodeEntry Obj Load) → AsksOfFetch before e → AsksNoMake e
fetch_makes before (up slot m now done fx) h = λ d. up_makes (brings_move slot m) _ _ slot m fx (h d)
fetch_makes before (down m now done fx) h = λ d. (h d).no_make
fetch_makes before (closed slot c now fx) h = h.0.no_make
fetch_makes before (time now done fx) h = λ d. h.0.no_make
fetch_makes before (regain l) h = tt

idle_makes : (e : NodeEntry Obj Load) → AsksOfIdle e → AsksNoMake e
idle_makes (up slot m now done fx) h = λ d. h.0.0.no_make
idle_makes (down m now done fx) h = λ d. h.0.no_make
idle_makes (closed slot c now fx) h = h.0.no_make
idle_makes (time now done fx) h = λ d. h.0.no_make
idle_makes (regain l) h = tt

tftp_makes : (v w : Conversation) (e : NodeEntry Obj Load) → Continues v e w → AsksNoMake e
tftp_makes _ _ _ (it_begins v m now fx tag ask effects) = λ d. effects.no_make
tftp_makes _ _ _ (receives b start past slot m now fx acts is effects takes) = λ d. effects.no_make
tftp_makes _ _ _ (ticks b start past now fx acts effects) = λ d. effects.no_make
tftp_makes _ _ _ (ends v (up slot m now done fx) fatal passes) = λ d. absurd (false_not done fatal d)
tftp_makes _ _ _ (ends v (down m now done fx) fatal passes) = λ d. absurd (false_not done fatal d)
tftp_makes _ _ _ (ends v (closed slot c now fx) fatal passes) = passes.0.no_make
tftp_makes _ _ _ (ends v (time now done fx) fatal passes) = λ d. absurd (false_not done fatal d)
tftp_makes _ _ _ (ends v (regain l) fatal passes) = tt
tftp_makes _ _ _ (rests v e idle asks) = idle_makes e asks

runs_last : (t : List (NodeEntry Obj Load)) (e : NodeEntry Obj Load) (v w : Conversation) → RunsTo v (t ++ e ∷ []) w → AsksNoMake e
runs_last [] e v w (u, goes, run) = tftp_makes v u e goes
runs_last (d ∷ t) e v w (u, goes, run) = runs_last t e u w run

asker_makes : {S B C : Type 0} (s : Service S B C) (v w : AskerState B C) (e : NodeEntry Obj Load) → AskerTakes s v e w → AsksNoMake e
asker_makes s _ _ _ (is_begun b m now fx tag ask effects) = λ d. effects.no_make
asker_makes s _ _ _ (takes_message b start past slot m now fx acts given takes effects whole gives) = λ d. effects.no_make
asker_makes s _ _ _ (takes_time b start past now fx acts given effects gives) = λ d. effects.no_make
asker_makes s _ _ _ (is_ended v (up slot m now done fx) fatal passes) = λ d. absurd (false_not done fatal d)
asker_makes s _ _ _ (is_ended v (down m now done fx) fatal passes) = λ d. absurd (false_not done fatal d)
asker_makes s _ _ _ (is_ended v (closed slot c now fx) fatal passes) = passes.0.no_make
asker_makes s _ _ _ (is_ended v (time now done fx) fatal passes) = λ d. absurd (false_not done fatal d)
asker_makes s _ _ _ (is_ended v (regain l) fatal passes) = tt
asker_makes s _ _ _ (stays_idle v e idle asks) = idle_makes e asks

leads_last : {S B C : Type 0} (s : Service S B C) (t : List (NodeEntry Obj Load)) (e : NodeEntry Obj Load) (v w : AskerState B C) → AskerLeadsTo s v (t ++ e ∷ []) w → AsksNoMake e
leads_last s [] e v w (u, goes, run) = asker_makes s v u e goes
leads_last s (d ∷ t) e v w (u, goes, run) = leads_last s t e u w run

obj_makes : (n : Obj) (t : List (NodeEntry Obj Load)) (e : NodeEntry Obj Load) → ObjStands n (t ++ e ∷ []) → AsksNoMake e
obj_makes (obj.Fetch f) t e h = let z = each_last t [] e h.asks in fetch_makes z.0 e z.1
obj_makes (obj.Tftp p) t e h = runs_last t e _ h.conversation h.run
obj_makes (obj.Resolver r) t e h = leads_last _ t e _ h.exchange h.run
obj_makes (obj.Dhcp d) t e h = leads_last _ t e _ h.exchange h.run
obj_makes (obj.Ping p) t e h = leads_last _ t e _ h.exchange h.run
obj_makes (obj.Http p) t e h = web_last _ t e _ h.talk h.run
obj_makes (obj.Tcp p) t e h = conn_last _ t e _ h.dialogue h.run
obj_makes (obj.Iscsi p) t e h = session_last _ t e _ h.talk h.run
obj_makes (obj.Disk p) t e h = unit_last _ t e _ h.talk h.run

-- so none of its entries does
pub makes_none : (x : ℕ) (t : List (NodeEntry Obj Load)) (ds : List (Deed Obj Load)) → Stood ObjStands x t ds → MakesNone x ds
makes_none x t [] h = tt
makes_none x t (writes e ∷ ds) h = makes_none x t ds h
makes_none x t (begins y n ∷ ds) h = makes_none x (trace_after x t (begins y n ∷ [])) ds h.1
makes_none x t (calls y e ∷ ds) h = ((λ i. let z = h.0 i in obj_makes z.1 t e z.3), makes_none x (trace_after x t (calls y e ∷ [])) ds h.1)
makes_none x t (turns u ∷ ds) h = makes_none x t ds h
