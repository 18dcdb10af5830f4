-- What is told of a drive, as records: by the messages that go to the network. What its unit hands up has no record.
use Rattle.std.proofs.Common.{◌≡◌, ◌⊎◌, inl, inr, ℕ, ◌==◌, ◌||◌, Bool, true, false, cond, List, [], ◌∷◌, ◌++◌, Option, Some, None, refl, sym, ◌∙◌, ap, subst}
use Rattle.std.specs.List.{AllByRecursion, flat_map, list_any}
use Rattle.std.specs.Option.{option_or}
use Rattle.nb_graph.specs.Trace.{Said}
use Rattle.nb_ledger.specs.Flat.{Notice, event, message}
use Rattle.nb_nodes.specs.Tags.{tag_number}
use Rattle.nb_nodes.specs.declared.tag.Tag.TheVariants.{Bytes}
use Rattle.nb_stack.specs.Client.{Client}
use Rattle.nb_traced.specs.Plain.{without_graph}
use Rattle.nb_traced.proofs.Plain.{plain_append, plain_aside}
use Rattle.nb_drivechains.specs.declared.drive_answer.DriveAnswer.{DriveAnswer}
use Rattle.nb_drivechains.specs.DriveCalls.{drive_answer_in}
use Rattle.nb_drivenodes.specs.DriveTags.{drive_tag_number}
use Rattle.nb_drivenodes.specs.declared.drive_tag.DriveTag.TheVariants.{Answered}
use Rattle.nb_drivetalks.specs.Tellings.{goes_up, told_above, told_below}
use Rattle.nb_webtalks.specs.Tellings.{messages_of}
use Rattle.nb_teller.specs.declared.speaker.Speaker.{Speaker}
use Rattle.nb_teller.specs.Deliveries.{delivered_address, delivered_answer, delivered_blocks, delivered_bytes}
use Rattle.nb_teller.specs.Tellings.{any_lacks_route, message_lacks_route, message_records, told_records}
use Rattle.nb_open.proofs.Callings.{of_message, puts_aside}
use Rattle.nb_open.proofs.Delivering.{DeliversNone}
use Rattle.nb_open.proofs.WebPuts.{said_lacks, said_records}

-- bytes of a block, or that a command was answered
abbrev pub IsHandedUp : Said → Type 0
IsHandedUp m = (m.tag ≡ tag_number Bytes) ⊎ (m.tag ≡ drive_tag_number Answered)

abbrev pub AreHandedUp : List Said → Type 0
AreHandedUp ms = AllByRecursion IsHandedUp ms

module _ (net : Client) (who : Speaker) (x : ℕ) where
  up_records : (tag a b : ℕ) (bytes : List ℕ) → (tag ≡ tag_number Bytes) ⊎ (tag ≡ drive_tag_number Answered) → message_records net who tag a b bytes ≡ []
  up_records tag a b bytes (inl e) = subst (λ t. message_records net who t a b bytes ≡ []) (sym e) refl
  up_records tag a b bytes (inr e) = subst (λ t. message_records net who t a b bytes ≡ []) (sym e) refl

  up_lacks : (tag b : ℕ) (bytes : List ℕ) → (tag ≡ tag_number Bytes) ⊎ (tag ≡ drive_tag_number Answered) → message_lacks_route net who tag b bytes ≡ false
  up_lacks tag b bytes (inl e) = subst (λ t. message_lacks_route net who t b bytes ≡ false) (sym e) refl
  up_lacks tag b bytes (inr e) = subst (λ t. message_lacks_route net who t b bytes ≡ false) (sym e) refl

  -- all records but the graph's are those of what goes down
  pub below_records : (ns : List Notice) → AreHandedUp (told_above x ns) → without_graph (told_records net who ns) ≡ flat_map (said_records net who) (messages_of (told_below x ns))
  below_records [] h = refl
  below_records (event e ∷ ns) h = below_records ns h
  below_records (message from tag rec a b bytes ∷ ns) h = by (below_records ns) (goes_up x from) h
    where
      said : Said
      said = record { tag = tag; rec = rec; a = a; b = b; bytes = bytes }

      by : (AreHandedUp (told_above x ns) → without_graph (told_records net who ns) ≡ flat_map (said_records net who) (messages_of (told_below x ns))) → (u : Bool) → AreHandedUp (cond u (said ∷ told_above x ns) (told_above x ns)) →
          without_graph (message_records net who tag a b bytes ++ told_records net who ns) ≡ flat_map (said_records net who) (messages_of (cond u (told_below x ns) (message from tag rec a b bytes ∷ told_below x ns)))
      by more true h = ap (λ z. without_graph (z ++ told_records net who ns)) (up_records tag a b bytes h.0) ∙ more h.1
      by more false h =
          let ms = message_records net who tag a b bytes in
          plain_append ms (told_records net who ns) ∙ (ap (λ z. z ++ without_graph (told_records net who ns)) (plain_aside ms (puts_aside who.number ms (of_message net who tag a b bytes))) ∙ ap (λ z. ms ++ z) (more h))

  pub below_lacks : (ns : List Notice) → AreHandedUp (told_above x ns) → any_lacks_route net who ns ≡ list_any (said_lacks net who) (messages_of (told_below x ns))
  below_lacks [] h = refl
  below_lacks (event e ∷ ns) h = below_lacks ns h
  below_lacks (message from tag rec a b bytes ∷ ns) h = by (below_lacks ns) (goes_up x from) h
    where
      said : Said
      said = record { tag = tag; rec = rec; a = a; b = b; bytes = bytes }

      by : (AreHandedUp (told_above x ns) → any_lacks_route net who ns ≡ list_any (said_lacks net who) (messages_of (told_below x ns))) → (u : Bool) → AreHandedUp (cond u (said ∷ told_above x ns) (told_above x ns)) →
          (message_lacks_route net who tag b bytes || any_lacks_route net who ns) ≡ list_any (said_lacks net who) (messages_of (cond u (told_below x ns) (message from tag rec a b bytes ∷ told_below x ns)))
      by more true h = ap (λ z. z || any_lacks_route net who ns) (up_lacks tag b bytes h.0) ∙ more h.1
      by more false h = ap (λ z. message_lacks_route net who tag b bytes || z) (more h)

-- WHAT IS DELIVERED

-- the bytes among what is handed up, and the first answer
abbrev pub blocks_among : List Said → List ℕ
blocks_among [] = []
blocks_among (m ∷ ms) = cond (m.tag == tag_number Bytes) (m.bytes ++ blocks_among ms) (blocks_among ms)

abbrev pub answer_among : List Said → Option DriveAnswer
answer_among [] = None
answer_among (m ∷ ms) = option_or (drive_answer_in m.tag m.a m.b) (answer_among ms)

module _ (x : ℕ) where
  not_address : (tag : ℕ) → (tag ≡ tag_number Bytes) ⊎ (tag ≡ drive_tag_number Answered) → (tag == 6) ≡ false
  not_address tag (inl e) = ap (λ z. z == 6) e
  not_address tag (inr e) = ap (λ z. z == 6) e

  -- no address is
  pub no_address_up : (ns : List Notice) → AreHandedUp (told_above x ns) → AllByRecursion DeliversNone (messages_of (told_below x ns)) → delivered_address ns ≡ None
  unfolding delivered_address
  no_address_up [] h k = refl
  no_address_up (event e ∷ ns) h k = no_address_up ns h k
  no_address_up (message from tag rec a b bytes ∷ ns) h k = by (no_address_up ns) (goes_up x from) h k
    where
      said : Said
      said = record { tag = tag; rec = rec; a = a; b = b; bytes = bytes }

      by : (AreHandedUp (told_above x ns) → AllByRecursion DeliversNone (messages_of (told_below x ns)) → delivered_address ns ≡ None)
          → (u : Bool) → AreHandedUp (cond u (said ∷ told_above x ns) (told_above x ns)) → AllByRecursion DeliversNone (messages_of (cond u (told_below x ns) (message from tag rec a b bytes ∷ told_below x ns))) →
          cond (tag == 6) (Some (record { 0 = a })) (delivered_address ns) ≡ None
      by more true h k = ap (λ z. cond z (Some (record { 0 = a })) (delivered_address ns)) (not_address tag h.0) ∙ more h.1 k
      by more false h k = ap (λ z. cond z (Some (record { 0 = a })) (delivered_address ns)) k.0.1 ∙ more h k.1

  -- and no bytes where nothing goes up
  pub no_bytes_up : (ns : List Notice) → told_above x ns ≡ [] → AllByRecursion DeliversNone (messages_of (told_below x ns)) → delivered_bytes ns ≡ None
  unfolding delivered_bytes
  no_bytes_up [] h k = refl
  no_bytes_up (event e ∷ ns) h k = no_bytes_up ns h k
  no_bytes_up (message from tag rec a b bytes ∷ ns) h k = by (no_bytes_up ns) (goes_up x from) h k
    where
      said : Said
      said = record { tag = tag; rec = rec; a = a; b = b; bytes = bytes }

      by : (told_above x ns ≡ [] → AllByRecursion DeliversNone (messages_of (told_below x ns)) → delivered_bytes ns ≡ None)
          → (u : Bool) → cond u (said ∷ told_above x ns) (told_above x ns) ≡ [] → AllByRecursion DeliversNone (messages_of (cond u (told_below x ns) (message from tag rec a b bytes ∷ told_below x ns))) →
          cond (tag == 5) (Some bytes) (delivered_bytes ns) ≡ None
      by more true h k = absurd (cc)
      by more false h k = ap (λ z. cond z (Some bytes) (delivered_bytes ns)) k.0.0 ∙ more h k.1

  -- the bytes and the answer are those among what goes up
  pub blocks_up : (ns : List Notice) → AllByRecursion DeliversNone (messages_of (told_below x ns)) → delivered_blocks ns ≡ blocks_among (told_above x ns)
  unfolding delivered_blocks
  blocks_up [] k = refl
  blocks_up (event e ∷ ns) k = blocks_up ns k
  blocks_up (message from tag rec a b bytes ∷ ns) k = by (blocks_up ns) (goes_up x from) k
    where
      said : Said
      said = record { tag = tag; rec = rec; a = a; b = b; bytes = bytes }

      by : (AllByRecursion DeliversNone (messages_of (told_below x ns)) → delivered_blocks ns ≡ blocks_among (told_above x ns))
          → (u : Bool) → AllByRecursion DeliversNone (messages_of (cond u (told_below x ns) (message from tag rec a b bytes ∷ told_below x ns))) →
          cond (tag == 5) (bytes ++ delivered_blocks ns) (delivered_blocks ns) ≡ blocks_among (cond u (said ∷ told_above x ns) (told_above x ns))
      by more true k = ap (λ z. cond (tag == 5) (bytes ++ z) z) (more k)
      by more false k = ap (λ z. cond z (bytes ++ delivered_blocks ns) (delivered_blocks ns)) k.0.0 ∙ more k.1

  pub answer_up : (ns : List Notice) → AllByRecursion DeliversNone (messages_of (told_below x ns)) → delivered_answer ns ≡ answer_among (told_above x ns)
  unfolding delivered_answer
  answer_up [] k = refl
  answer_up (event e ∷ ns) k = answer_up ns k
  answer_up (message from tag rec a b bytes ∷ ns) k = by (answer_up ns) (goes_up x from) k
    where
      said : Said
      said = record { tag = tag; rec = rec; a = a; b = b; bytes = bytes }

      by : (AllByRecursion DeliversNone (messages_of (told_below x ns)) → delivered_answer ns ≡ answer_among (told_above x ns))
          → (u : Bool) → AllByRecursion DeliversNone (messages_of (cond u (told_below x ns) (message from tag rec a b bytes ∷ told_below x ns))) →
          option_or (drive_answer_in tag a b) (delivered_answer ns) ≡ answer_among (cond u (said ∷ told_above x ns) (told_above x ns))
      by more true k = ap (option_or (drive_answer_in tag a b)) (more k)
      by more false k = ap (λ z. option_or (cond z (let answer : DriveAnswer = record { blocks = a; chap = b } in Some answer) None) (delivered_answer ns)) k.0.2 ∙ more k.1
