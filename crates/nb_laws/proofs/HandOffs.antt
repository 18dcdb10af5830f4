-- Records of opens, the end of the last open, and records that tell no PART.
use Rattle.std.proofs.Common.{◌≡◌, ℕ, Bool, true, false, cond, List, [], ◌∷◌, ◌++◌, Option, Some, None, ap}
use Rattle.std.specs.List.{AllByRecursion}
use Rattle.std.proofs.lemmas.List.Sums.{fold-append}
use Rattle.nb_terms.specs.declared.acts.Acts.{Acts}
use Rattle.nb_terms.specs.declared.acts.SendTo.{SendTo}
use Rattle.nb_defs.specs.Commands.{CommandOutcome}
use Rattle.nb_defs.specs.Records.{Out, step, sent, text, command, result, script, opened, tried, advanced, ended, graph, part, done}
use Rattle.nb_stack.specs.Client.{Client}
use Rattle.nb_machine.specs.Effects.{ShownWords}
use Rattle.nb_machine.specs.Sendings.{has_route, send_records, sends_records, acts_records, advance_records, try_records}
use Rattle.nb_defs.specs.Parts.{IsNoPart, HaveNoParts}
use Rattle.nb_machine.specs.Running.{Running}
use Rattle.nb_machine.specs.CommandRecords.{prints, command_record, command_records}
use Rattle.nb_streams.proofs.FlowLaws.{all_append}
use Rattle.nb_laws.specs.Events.{Event}
use Rattle.nb_laws.specs.CommandOpens.{command_open, command_open_by, over_of}
use Rattle.nb_laws.specs.Lists.{last_end}

-- a FRAME, a TRY or an ADVANCE
unfoldable pub IsOpens : Out → Type 0
IsOpens (sent bytes) = Unit {0}
IsOpens (tried number count) = Unit {0}
IsOpens (advanced number place) = Unit {0}
IsOpens (step number) = ⊥
IsOpens (text bytes) = ⊥
IsOpens (command depth line place expanded words) = ⊥
IsOpens (result cause) = ⊥
IsOpens (script what depth cause) = ⊥
IsOpens (opened number kind server port own target) = ⊥
IsOpens (ended number cause) = ⊥
IsOpens (graph happens) = ⊥
IsOpens (part kind index offset bytes) = ⊥
IsOpens (done status) = ⊥

abbrev pub AreOpens : List Out → Type 0
AreOpens outs = AllByRecursion IsOpens outs

more : (xs ys : List Out) → AreOpens xs → AreOpens ys → AreOpens (xs ++ ys)
more xs ys p q = all_append IsOpens xs ys p q

pub opens_try : (k : ℕ) (try : Option ℕ) → AreOpens (try_records k try)
unfolding IsOpens
opens_try k None = tt
opens_try k (Some n) = (tt, tt)

opens_send_by : (b : Bool) (xs : List Out) (bytes : List ℕ) → AreOpens xs → AreOpens (cond b (xs ++ (sent bytes ∷ [])) [])
unfolding IsOpens
opens_send_by true xs bytes p = more xs (sent bytes ∷ []) p (tt, tt)
opens_send_by false xs bytes p = tt

pub opens_send : (net : Client) (k : ℕ) (try : Option ℕ) (m : SendTo) → AreOpens (send_records net k try m)
opens_send net k try m = opens_send_by (has_route net m) (try_records k try) _ (opens_try k try)

opens_sends : (net : Client) (k : ℕ) (try : Option ℕ) (ms : List SendTo) → AreOpens (sends_records net k try ms)
unfolding sends_records
opens_sends net k try [] = tt
opens_sends net k try (m ∷ []) = opens_send net k try m
opens_sends net k try (m ∷ n ∷ ms) = more (send_records net k None m) (sends_records net k try (n ∷ ms)) (opens_send net k None m) (opens_sends net k try (n ∷ ms))

pub opens_advance : (k : ℕ) (place : Option ℕ) → AreOpens (advance_records k place)
unfolding IsOpens
opens_advance k None = tt
opens_advance k (Some place) = (tt, tt)

pub opens_acts : (net : Client) (k : ℕ) (acts : Acts) → AreOpens (acts_records net k acts)
unfolding acts_records
opens_acts net k acts = more (advance_records k acts.advance) (sends_records net k acts.tried acts.sends.items) (opens_advance k acts.advance) (opens_sends net k acts.tried acts.sends.items)

open_then : (es : List Event) (e : Event) → command_open (es ++ e ∷ []) ≡ command_open_by (command_open es) e
unfolding command_open
open_then es e = fold-append command_open_by None es (e ∷ [])

pub last_end_more : (es : List Event) (e : Event) → last_end (es ++ e ∷ []) ≡ over_of (command_open_by (command_open es) e)
last_end_more es e = ap over_of (open_then es e)

no_prints : (p : Option (List ℕ)) → HaveNoParts (prints p)
no_prints None = tt
no_prints (Some bytes) = (tt, tt)

pub parts_more : (xs ys : List Out) → HaveNoParts xs → HaveNoParts ys → HaveNoParts (xs ++ ys)
parts_more xs ys p q = all_append IsNoPart xs ys p q

pub no_command : (s : Running) (shown : ShownWords) (o : CommandOutcome) → HaveNoParts (command_records s shown o)
no_command s shown o =
    parts_more ((command_record s shown ∷ []) ++ prints o.prints) (result o.cause ∷ []) (parts_more (command_record s shown ∷ []) (prints o.prints) (tt, tt) (no_prints o.prints)) (tt, tt)
