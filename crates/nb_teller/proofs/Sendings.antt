-- The fate of a message as a route, and the records of one that leaves.
use Rattle.std.proofs.Common.{◌≡◌, ℕ, Option, true, List, [], ◌∷◌, ◌++◌, refl, ap}
use Rattle.nb_defs.specs.Records.{out_texts, sent}
use Rattle.nb_record.specs.Logged.{Logged, Puts}
use Rattle.nb_stack.specs.Acks.{LeavesIn}
use Rattle.nb_stack.specs.Client.{Client}
use Rattle.nb_stack.specs.declared.taken.Fate.{Fate}
use Rattle.nb_stack.specs.declared.taken.Fate.TheVariants as fate
use Rattle.nb_machine.specs.Sendings.{is_on_its_way, has_route, try_records}
use Rattle.nb_teller.specs.declared.speaker.Speaker.{Speaker}
use Rattle.nb_teller.specs.Put.{LeavesByRoute}
use Rattle.nb_teller.specs.Speakers.{datagram_of}

pub on_its_way : (f : Fate) → (f ≡ fate.NoRoute → ⊥) → is_on_its_way f ≡ true
on_its_way fate.Sent routed = refl
on_its_way fate.Asked routed = refl
on_its_way fate.NoRoute routed = absurd (routed refl)

-- the frame in which a message leaves, after its try
pub leaves : (net : Client) (who : Speaker) (tried : Option ℕ) (port : ℕ) (body frame : List ℕ) (old new : Logged) → LeavesIn net (datagram_of who port body) frame
    → Puts old new (out_texts (try_records who.number tried ++ (sent frame ∷ []))) → LeavesByRoute net who tried port body old new
leaves net who tried port body frame old new is puts =
    let goes : has_route net (datagram_of who port body) ≡ true = ap is_on_its_way is.fate in
    (goes, rw (goes, ← is.put) puts)
