-- An open begins: its objects were made, and the user has asked.
use Rattle.std.proofs.Common.{◌≡◌, ℕ, [], Option, refl}
use Rattle.nb_ledger.specs.Ledger.{run_state}
use Rattle.nb_graph.specs.Whole.{Objects}
use Rattle.nb_nodes.specs.declared.obj.Obj.{Obj}
use Rattle.nb_stack.specs.Client.{Client}
use Rattle.nb_chains.specs.declared.chain.Chain.{Chain}
use Rattle.nb_teller.specs.declared.teller.Teller.{Teller}
use Rattle.nb_teller.specs.Spelling.{IsBlank, IsWholeSpelling, Spelling}
use Rattle.nb_teller.proofs.Tellers.{told_is}
use Rattle.nb_open.specs.declared.beginning.Begun.{Begun}
use Rattle.nb_open.specs.declared.objects.OpenObjects.{OpenObjects}
use Rattle.nb_open.specs.declared.objects.OpenObjects.TheVariants as objects
use Rattle.nb_open.specs.declared.opening.Opening.{Opening}
use Rattle.nb_open.specs.Begins.{AwaitsFor, BeginsOpen}
use Rattle.nb_open.specs.Making.{MakesObjectsOf, StartsOpen}
use Rattle.nb_open.specs.Objects.{IsAskedFrom}
use Rattle.nb_open.specs.Opening.{chain_kind, speaker_for}
use Rattle.nb_open.specs.Settling.{told_so_far}
use Rattle.nb_open.proofs.LeavingElse.{leaves_else, objects_grown}
use Rattle.nb_open.proofs.ObjectsMade.{makes_objects, making_told, objects_made}

module _ (a : Opening) (waits : Option Chain) (old mid : Objects Obj) (before last : Teller) where
  pub asked_from : (o : OpenObjects) → MakesObjectsOf a waits o old mid (told_so_far before) (told_so_far last) → IsAskedFrom a o
  asked_from (objects.Chain kind chain) made = tt
  asked_from (objects.Web port own chain) made = made.2
  asked_from (objects.Drive port own chain) made = made.2

pub begins_open : (a : Opening) (number now : ℕ) (waits : Option Chain) (link : Client) (old mid new : Objects Obj) (before last : Teller) (made told : Spelling) (b : Begun) → b.«open».speaker ≡ speaker_for a number → AwaitsFor (chain_kind a) waits old →
    MakesObjectsOf a waits b.«open».objects old mid (told_so_far before) (told_so_far last) → IsBlank before.told.value → made ≡ last.told.value → IsWholeSpelling made → StartsOpen a number now link b.«open» mid new told b.ended →
    BeginsOpen a number now waits link old new made told b
begins_open a number now waits link old mid new before last made told b speaker awaits makes blank is whole starts =
    let m = told_so_far before in
    let n = told_so_far last in
    let are = objects_made a waits old mid m n b.«open».objects makes in
    record {
      speaker = speaker;
      asked = asked_from a waits old mid before last b.«open».objects makes;
      mid = run_state mid.book [];
      makes = makes_objects a waits b.«open» old mid m n are awaits before.net.now before.who.now made
          (told_is before.net.now before.who.now before last made (making_told waits b.«open».objects) refl refl blank are.given is whole);
      records = starts.records;
      text = starts.text;
      sets_out = starts.sets_out;
      leaves = leaves_else waits b old mid new (objects_grown a waits b.«open».objects old mid m n makes) starts.leaves;
    }
