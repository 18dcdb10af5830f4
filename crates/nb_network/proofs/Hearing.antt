-- What is kept of a drive is its login, and what it has answered and read.
use Rattle.std.proofs.Common.{◌≡◌, inl, inr, ℕ, true, false, List, Option, Some, None, option_map, refl, sym, ap, ◌∙◌, subst}
use Rattle.std.specs.Prelude.{option_and_then}
use Rattle.std.specs.Option.{is_some}
use Rattle.std.proofs.lemmas.Bool.{false≢true}
use Rattle.nb_chains.specs.declared.arrival.Arrival.{Arrival}
use Rattle.nb_defs.specs.Records.{Out}
use Rattle.nb_drivechains.specs.declared.drive_answer.DriveAnswer.{DriveAnswer as Told}
use Rattle.nb_drivechains.specs.declared.drive_chain.DriveChain.{DriveChain}
use Rattle.nb_graph.specs.Whole.{Objects}
use Rattle.nb_login.specs.declared.info.LoginInfo.{LoginInfo}
use Rattle.nb_nodes.specs.declared.obj.Obj.{Obj}
use Rattle.nb_stack.specs.Client.{Client}
use Rattle.nb_webchains.specs.declared.web_chain.WebChain.{WebChain}
use Rattle.nb_wire.specs.declared.address.Ip4.{Ip4}
use Rattle.nb_machine.specs.BootTables.{login_of_kind}
use Rattle.nb_machine.specs.Drives.{DriveAnswer, last_read}
use Rattle.nb_machine.specs.Kinds.{answered, answered_by, is_connection, read_last}
use Rattle.nb_machine.specs.Lives.{OpenInput, message, tcp_segment, time, task, close, OpenKind, tftp, http, iscsi, dns, dhcp, ping, Live}
use Rattle.nb_teller.specs.Spelling.{Spelling}
use Rattle.nb_open.specs.declared.objects.OpenObjects.{OpenObjects}
use Rattle.nb_open.specs.declared.objects.OpenObjects.TheVariants as objects
use Rattle.nb_open.specs.declared.open.Open.{Open}
use Rattle.nb_open.specs.DriveAnswers.{AnswersAtEnd, AnswersFor, AnswersLast, AnswersLastTo, AnswersTo, IsRefused}
use Rattle.nb_open.specs.Exchanges.{IsInput, by_message, by_segment, with_exchange}
use Rattle.nb_open.specs.Open.{AreOfKind, AreUnderWay, IsDriveUnderWay, IsOpenOf as IsBareOf, IsTalkingDrive, IsWebUnderWay}
use Rattle.nb_network.specs.declared.living.KeptDrive.{KeptDrive}
use Rattle.nb_network.specs.declared.living.Living.{Living}
use Rattle.nb_network.specs.Drives.{DriveNews, brings, drive_noted, drive_of, news_by, kept_drive_of, noted, with_news}
use Rattle.nb_network.specs.Many.{IsLivingOf, bare_open}
use Rattle.nb_network.proofs.Keeping.{asked_is, brought_is, chap_in}

-- THE OPEN ALONE

pub bare_is : {g : Objects Obj} {o : Living} {l : Live} → IsLivingOf g o l → IsBareOf g (bare_open o) l
bare_is i = record { chained = i.chained; called = i.called; under_way = i.under_way }

-- one on a graph, with what is kept of it
pub living_is : {g : Objects Obj} {o : Living} {l : Live} → IsBareOf g (bare_open o) l → o.drive ≡ drive_of l → IsLivingOf g o l
living_is i drive = record { chained = i.chained; called = i.called; under_way = i.under_way; drive = drive }

-- what a message is known to answer
pub heard_input : (o : Open) (l : Live) (rec : ℕ) (a : Arrival) (now : ℕ) (came : OpenInput) (s : Spelling) → IsInput o l rec a now came → brings s.answer s.blocks ≡ news_by came s
heard_input o l rec a now came s (by_message none suits short) = refl
heard_input o l rec a now came s (by_segment x joined suits laid) = refl

-- OTHERS ANSWER NOTHING

pub no_login : (k : OpenKind) → is_connection k ≡ false → login_of_kind k ≡ None
no_login tftp c = refl
no_login (http isn) c = absurd (false≢true (sym c))
no_login (iscsi isn i) c = absurd (false≢true (sym c))
no_login (dns id) c = refl
no_login (dhcp a) c = refl
no_login ping c = refl

pub web_login : (k : OpenKind) (own : Ip4) (c : WebChain) (g : Objects Obj) (l : Live) → IsWebUnderWay k own c g l → login_of_kind k ≡ None
web_login tftp own c g l u = absurd u
web_login (http isn) own c g l u = refl
web_login (iscsi isn i) own c g l u = absurd u
web_login (dns id) own c g l u = absurd u
web_login (dhcp a) own c g l u = absurd u
web_login ping own c g l u = absurd u

pub no_answer : (k : OpenKind) (l : Live) → login_of_kind k ≡ None → answered_by k l ≡ None
no_answer tftp l e = refl
no_answer (http isn) l e = refl
no_answer (iscsi isn i) l e = absurd (cc)
no_answer (dns id) l e = refl
no_answer (dhcp a) l e = refl
no_answer ping l e = refl

pub some_chap : (a : Option DriveAnswer) → is_some (chap_in a) ≡ is_some a
some_chap None = refl
some_chap (Some a) = refl

not_read_some : (a : Option DriveAnswer) → IsRefused a → is_some a ≡ true
not_read_some None r = absurd r
not_read_some (Some a) r = refl

pub drive_kind : (k : OpenKind) (own : Ip4) (c : DriveChain) (g : Objects Obj) (l : Live) → IsDriveUnderWay k own c g l → (isn : ℕ) × (i : LoginInfo) × (k ≡ iscsi isn i) × IsTalkingDrive isn i own c g l
drive_kind tftp own c g l u = absurd u
drive_kind (http isn) own c g l u = absurd u
drive_kind (iscsi isn i) own c g l u = (isn, i, refl, u)
drive_kind (dns id) own c g l u = absurd u
drive_kind (dhcp a) own c g l u = absurd u
drive_kind ping own c g l u = absurd u

-- WHAT IS NOTED

-- an open that has ended is kept so
abbrev pub IsLastOf : Live → Option KeptDrive → Type 0
IsLastOf after d = (is_some (answered after) ≡ is_some (option_and_then (λ (k : KeptDrive). k.chap) d)) × (read_last after ≡ option_and_then (λ (k : KeptDrive). k.read) d)

-- of one of the machine's, as something comes to it
module _ (g : Objects Obj) (l : Live) (came : OpenInput) (link : Client) (put : List Out) (s : Spelling) where
  abbrev after : Live
  after = with_exchange l came link put

  -- it is none of a drive
  module _ (none : login_of_kind l.kind ≡ None) where
    still_none : (heard : DriveNews) → drive_noted heard (drive_of l) ≡ drive_of after
    still_none heard = ap (λ z. drive_noted heard (option_map (kept_drive_of l) z)) none ∙ sym (ap (option_map (kept_drive_of after)) none)

    none_last : (heard : DriveNews) → IsLastOf after (drive_noted heard (drive_of l))
    none_last heard =
        let unanswered = no_answer l.kind after none in
        let noted_none : drive_noted heard (drive_of l) ≡ None = ap (λ z. drive_noted heard (option_map (kept_drive_of l) z)) none in
        subst (IsLastOf after) (sym noted_none) (ap is_some unanswered, ap (option_and_then last_read) unanswered)

  -- it is a drive
  module _ (isn : ℕ) (i : LoginInfo) (e : l.kind ≡ iscsi isn i) where
    is_kept : drive_of l ≡ Some (kept_drive_of l i)
    is_kept = ap (λ k. option_map (kept_drive_of l) (login_of_kind k)) e

    kept_then : drive_of after ≡ Some (kept_drive_of after i)
    kept_then = ap (λ k. option_map (kept_drive_of after) (login_of_kind k)) e

    -- where it would go on so
    kept_last : (heard : DriveNews) → with_news heard (kept_drive_of l i) ≡ kept_drive_of after i → IsLastOf after (Some (with_news heard (kept_drive_of l i)))
    kept_last heard same = subst (λ (d : KeptDrive). IsLastOf after (Some d)) (sym same) (sym (some_chap (answered after)), refl)

    brought_last : (answer : Option Told) (blocks : List ℕ) → AnswersAtEnd l after answer blocks → IsLastOf after (Some (with_news (brings answer blocks) (kept_drive_of l i)))
    brought_last None blocks (inl h, last) = (ap is_some h ∙ sym (some_chap (answered l)), last)
    brought_last None blocks (inr h, last) = (not_read_some (answered after) h.1 ∙ sym (some_chap (answered l) ∙ h.0), last)
    brought_last (Some a) blocks h = kept_last (brings (Some a) blocks) (brought_is i l after (Some a) blocks h)

    heard_after : (input : OpenInput) → AnswersTo input l after s.answer s.blocks → with_news (news_by input s) (kept_drive_of l i) ≡ kept_drive_of after i
    heard_after (message rec port body now) h = brought_is i l after s.answer s.blocks h
    heard_after (tcp_segment rec x now) h = brought_is i l after s.answer s.blocks h
    heard_after (time now) h = brought_is i l after s.answer s.blocks h
    heard_after (task t now) h = asked_is i l after t h
    heard_after (close cause) h = brought_is i l after s.answer s.blocks h

    heard_last : (input : OpenInput) → AnswersLastTo input l after s.answer s.blocks → IsLastOf after (Some (with_news (news_by input s) (kept_drive_of l i)))
    heard_last (message rec port body now) h = brought_last s.answer s.blocks h
    heard_last (tcp_segment rec x now) h = brought_last s.answer s.blocks h
    heard_last (time now) h = brought_last s.answer s.blocks h
    heard_last (task t now) h = kept_last (news_by (task t now) s) (asked_is i l after t h)
    heard_last (close cause) h = brought_last s.answer s.blocks h

  goes_on_by : (os : OpenObjects) → AreOfKind os l → AreUnderWay os g l → AnswersFor os came l after s.answer s.blocks → drive_noted (news_by came s) (drive_of l) ≡ drive_of after
  goes_on_by (objects.Chain kind chain) called u h = still_none (no_login l.kind called.0) (news_by came s)
  goes_on_by (objects.Web port own chain) called u h = still_none (web_login l.kind own chain g l u) (news_by came s)
  goes_on_by (objects.Drive port own chain) called u h =
      let d = drive_kind l.kind own chain g l u in
      ap (drive_noted (news_by came s)) (is_kept d.0 d.1 d.2) ∙ (ap Some (heard_after d.0 d.1 d.2 came h) ∙ sym (kept_then d.0 d.1 d.2))

  ends_by : (os : OpenObjects) → AreOfKind os l → AreUnderWay os g l → AnswersLast os came l after s.answer s.blocks → IsLastOf after (drive_noted (news_by came s) (drive_of l))
  ends_by (objects.Chain kind chain) called u h = none_last (no_login l.kind called.0) (news_by came s)
  ends_by (objects.Web port own chain) called u h = none_last (web_login l.kind own chain g l u) (news_by came s)
  ends_by (objects.Drive port own chain) called u h =
      let d = drive_kind l.kind own chain g l u in
      subst (λ (z : Option KeptDrive). IsLastOf after (drive_noted (news_by came s) z)) (sym (is_kept d.0 d.1 d.2)) (heard_last d.0 d.1 d.2 came h)

  module _ (o : Living) (is : IsLivingOf g o l) where
    -- it goes on, with what is noted of it
    pub noted_is : (h : Objects Obj) → IsBareOf h (bare_open o) after → AnswersFor o.objects came l after s.answer s.blocks → IsLivingOf h (noted (news_by came s) o) after
    noted_is h bare answers = record {
      chained = bare.chained;
      called = bare.called;
      under_way = bare.under_way;
      drive = ap (drive_noted (news_by came s)) is.drive ∙ goes_on_by o.objects is.called.kind is.under_way answers;
    }

    -- it ends, and it is known whether it has answered, and what it has read last
    pub known_last : AnswersLast o.objects came l after s.answer s.blocks → IsLastOf after (noted (news_by came s) o).drive
    known_last answers = subst (λ (z : Option KeptDrive). IsLastOf after (drive_noted (news_by came s) z)) (sym is.drive) (ends_by o.objects is.called.kind is.under_way answers)
