-- The first close among the records of a call on an open's objects is that among its notices.
use Rattle.std.proofs.Common.{◌≡◌, ℕ, cond, List, [], ◌∷◌, ◌++◌, map, Option, Some, None, refl, sym, ◌∙◌, ap}
use Rattle.std.specs.List.{AllByRecursion}
use Rattle.nb_terms.specs.declared.cause.Cause.{Cause}
use Rattle.nb_defs.specs.Records.{Out, sent, tried, advanced, graph, opened, ended, step, text, command, result, script, part, done}
use Rattle.nb_ledger.specs.declared.event.GraphEvent.{GraphEvent}
use Rattle.nb_ledger.specs.declared.event.GraphEvent.TheVariants.{Made, Held, LetGo, Plugged, Entered, Left, Dropped, Closed, Unplugged, Freed}
use Rattle.nb_ledger.specs.Flat.{Notice, event, message, events_part, flat}
use Rattle.nb_frames.specs.Frames.{is_one_of}
use Rattle.nb_frames.specs.Within.{IsEventWithin}
use Rattle.nb_opens.specs.Notices.{close_of, first_close, or_else}
use Rattle.nb_stack.specs.Client.{Client}
use Rattle.nb_traced.specs.Pieces.{IsOfOpen, close_cause, first_close_of, first_or}
use Rattle.nb_teller.specs.declared.speaker.Speaker.{Speaker}
use Rattle.nb_teller.specs.Tellings.{message_records, told_records}
use Rattle.nb_open.proofs.Callings.{of_message}

close_is : (ids : List ℕ) (g : GraphEvent) → IsEventWithin (is_one_of ids) g → close_cause ids (graph (flat g)) ≡ close_of (event (flat g))
close_is ids (Made x kind) h = refl
close_is ids (Held x) h = refl
close_is ids (LetGo x) h = refl
close_is ids (Plugged p q) h = refl
close_is ids (Entered p way) h = refl
close_is ids (Left p) h = refl
close_is ids (Dropped p) h = refl
close_is ids (Closed p cause) h = ap (λ b. cond b (Some cause) None) h
close_is ids (Unplugged p q) h = refl
close_is ids (Freed x) h = refl

or_same : (a b : Option Cause) → first_or a b ≡ or_else a b
or_same None b = refl
or_same (Some c) b = refl

open_closes : (k : ℕ) (ids : List ℕ) (o : Out) → IsOfOpen k o → close_cause ids o ≡ None
open_closes k ids (sent bytes) h = refl
open_closes k ids (tried number count) h = refl
open_closes k ids (advanced number place) h = refl
open_closes k ids (graph happens) h = absurd h
open_closes k ids (opened number kind server port own target) h = absurd h
open_closes k ids (ended number cause) h = absurd h
open_closes k ids (step number) h = absurd h
open_closes k ids (text bytes) h = absurd h
open_closes k ids (command depth line place expanded words) h = absurd h
open_closes k ids (result cause) h = absurd h
open_closes k ids (script what depth cause) h = absurd h
open_closes k ids (part kind index offset bytes) h = absurd h
open_closes k ids (done status) h = absurd h

sent_close : (k : ℕ) (ids : List ℕ) (xs ys : List Out) → AllByRecursion (IsOfOpen k) xs → first_close_of ids (xs ++ ys) ≡ first_close_of ids ys
sent_close k ids [] ys h = refl
sent_close k ids (x ∷ xs) ys h = ap (λ z. first_or z (first_close_of ids (xs ++ ys))) (open_closes k ids x h.0) ∙ sent_close k ids xs ys h.1

abbrev first_event : {A : Type 0} → A → List A → A
first_event d [] = d
first_event d (x ∷ xs) = x

abbrev other_events : {A : Type 0} → List A → List A
other_events [] = []
other_events (x ∷ xs) = xs

-- the first close among the records is that among the notices
pub closes_are : (net : Client) (who : Speaker) (ids : List ℕ) (ns : List Notice) (es : List GraphEvent) → events_part ns ≡ map flat es → AllByRecursion (IsEventWithin (is_one_of ids)) es →
    first_close_of ids (told_records net who ns) ≡ first_close ns
closes_are net who ids [] es e h = refl
closes_are net who ids (event v ∷ ns) [] e h = absurd (cc)
closes_are net who ids (event v ∷ ns) (g ∷ es) e h =
    let same : v ≡ flat g = ap (first_event v) e in
    let rest = closes_are net who ids ns es (ap other_events e) h.1 in
    ap (λ z. first_or z (first_close_of ids (told_records net who ns))) (ap (λ z. close_cause ids (graph z)) same ∙ (close_is ids g h.0 ∙ ap (λ z. close_of (event z)) (sym same)))
    ∙ (or_same (close_of (event v)) (first_close_of ids (told_records net who ns)) ∙ ap (or_else (close_of (event v))) rest)
closes_are net who ids (message from tag rec a b bytes ∷ ns) es e h =
    sent_close who.number ids (message_records net who tag a b bytes) (told_records net who ns) (of_message net who tag a b bytes) ∙ closes_are net who ids ns es e h
