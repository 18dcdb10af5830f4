-- The drives that are hooked, and what is known of their opens, as the opens that live change.
use Rattle.std.proofs.Common.{◌≡◌, ℕ, ◌+◌, ◌<◌, ◌==◌, ◌||◌, Bool, true, false, cond, List, [], ◌∷◌, ◌++◌, Option, Some, None, refl, sym, ◌∙◌, ap, subst, arith}
use Rattle.std.specs.Prelude.{filter, find, nat_lt}
use Rattle.std.specs.List.{AllByRecursion, list_any}
use Rattle.std.proofs.lemmas.Bool.{eqb-true}
use Rattle.nb_graph.specs.Whole.{Objects}
use Rattle.nb_nodes.specs.declared.obj.Obj.{Obj}
use Rattle.nb_drivecmd.specs.declared.drive.Drive.{Drive}
use Rattle.nb_drivecmd.specs.HookedDrives.{drive_numbered, is_drive, with_hooked}
use Rattle.nb_machine.specs.Lives.{Live}
use Rattle.nb_network.specs.Many.{AreOpensOf, AreRising, Many}
use Rattle.nb_network.specs.Ones.{HasDrive}
use Rattle.nb_network.specs.declared.living.Living.{Living as Open}
use Rattle.nb_network.proofs.Lists.{all_append}
use Rattle.nb_client.specs.Soundness.{AreHooked, IsDriveAt, IsDriveKind, IsUnaskedBut, has_its_open, kept_drives}
use Rattle.nb_client.proofs.DriveKinds.{has_drive, kinds_all, unasked_weaker}
use Rattle.nb_client.proofs.DriveLists.{all_filter, each_passes, kept_more, kept_twice}

-- where no open lives
pub none_hooked : (asked : Option ℕ) (m : Many) (ds : List Drive) → m.list ≡ [] → ds ≡ [] → AreHooked asked m ds
none_hooked asked m ds list none = rw none (record {
  kept = refl;
  live = [];
  are = subst (λ os. AreOpensOf m.graph os []) (sym list) tt;
  unasked = tt;
  kinds = tt;
})

-- where the same opens live on
pub same_hooked : (asked : Option ℕ) (m m' : Many) (ds : List Drive) → m'.list ≡ m.list → ((live : List Live) → AreOpensOf m.graph m.list live → AreOpensOf m'.graph m'.list live) → AreHooked asked m ds → AreHooked asked m' ds
same_hooked asked m m' ds list stays h = record {
  kept = subst (λ (os : List Open). kept_drives os ds ≡ ds) (sym list) h.kept;
  live = h.live;
  are = stays h.live h.are;
  unasked = h.unasked;
  kinds = h.kinds;
}

-- where some of them are closed
pub fewer_hooked : (m m' : Many) (ds : List Drive) (f : Live → Bool) → (h : AreHooked None m ds) → AreOpensOf m'.graph m'.list (filter f h.live) → AreHooked None m' (kept_drives m'.list ds)
fewer_hooked m m' ds f h are = record {
  kept = kept_twice m'.list ds;
  live = filter f h.live;
  are = are;
  unasked = all_filter (IsUnaskedBut None) f h.live h.unasked;
  kinds = all_filter (λ (d : Drive). IsDriveAt d.open_number (filter f h.live)) (has_its_open m'.list) ds
      (kinds_all h.live (filter f h.live) (λ k x. all_filter (λ l. l.number ≡ k → IsDriveKind l.kind) f h.live x) ds h.kinds);
}

-- ONE MORE OPEN

-- a number of an open that lives is below
lives_below : (g : Objects Obj) (os : List Open) (ls : List Live) (least most k : ℕ) → AreOpensOf g os ls → AreRising least most os → list_any (λ (o : Open). o.speaker.number == k) os ≡ true → k < most
lives_below g [] ls least most k are rising e = absurd (let no : false ≡ true = e in cc)
lives_below g (o ∷ os) [] least most k are rising e = absurd are
lives_below g (o ∷ os) (l ∷ ls) least most k are rising e = by (o.speaker.number == k) refl (λ is. lives_below g os ls (o.speaker.number + 1) most k are.1 rising.2 is) e
  where
    by : (b : Bool) → (o.speaker.number == k) ≡ b → (list_any (λ (x : Open). x.speaker.number == k) os ≡ true → k < most) → (b || list_any (λ (x : Open). x.speaker.number == k) os) ≡ true → k < most
    by true is rest same = let number : o.speaker.number ≡ k = eqb-true o.speaker.number k is in omega (arith, number, rising.1)
    by false is rest same = rest same

-- it is no drive's that is hooked
pub more_hooked : (m m' : Many) (most : ℕ) (l : Live) (asked : Option ℕ) (ds : List Drive) → (h : AreHooked None m ds) → AreRising 0 most m.list → l.number ≡ most → l.exchanges ≡ [] → AreOpensOf m'.graph m'.list (h.live ++ l ∷ []) → AreHooked asked m' ds
more_hooked m m' most l asked ds h rising number none are =
    let live = h.live ++ l ∷ [] in
    record {
      kept = kept_more m.graph m'.graph m.list m'.list h.live (l ∷ []) ds h.are are h.kept;
      live = live;
      are = are;
      unasked = unasked_weaker asked live (all_append (IsUnaskedBut None) h.live (l ∷ []) h.unasked (rw none tt, tt));
      kinds = both ds (each_passes (has_its_open m.list) ds h.kept) h.kinds;
    }
  where
    both : (xs : List Drive) → AllByRecursion (λ (d : Drive). has_its_open m.list d ≡ true) xs → AllByRecursion (λ (d : Drive). IsDriveAt d.open_number h.live) xs → AllByRecursion (λ (d : Drive). IsDriveAt d.open_number (h.live ++ l ∷ [])) xs
    both [] a b = tt
    both (d ∷ xs) a b =
        let less = lives_below m.graph m.list h.live 0 most d.open_number h.are rising a.0 in
        (all_append (λ x. x.number ≡ d.open_number → IsDriveKind x.kind) h.live (l ∷ []) b.0 ((λ same. absurd (omega (arith, same, number, less))), tt), both xs a.1 b.1)

-- ONE MORE DRIVE

pub hooked_all : (P : Drive → Type 0) (d : Drive) (ds : List Drive) → P d → AllByRecursion P ds → AllByRecursion P (with_hooked d ds)
hooked_all P d ds x h =
    all_append P (filter (λ (o : Drive). nat_lt o.number d.number) ds) (d ∷ filter (λ (o : Drive). nat_lt d.number o.number) ds) (all_filter P (λ (o : Drive). nat_lt o.number d.number) ds h)
    (x, all_filter P (λ (o : Drive). nat_lt d.number o.number) ds h)

-- whose open is a drive's, if it lives
pub one_hooked : (asked : Option ℕ) (m : Many) (d : Drive) (ds : List Drive) → (h : AreHooked asked m ds) → IsDriveAt d.open_number h.live → AreHooked asked m (kept_drives m.list (with_hooked d ds))
one_hooked asked m d ds h kind = record {
  kept = kept_twice m.list (with_hooked d ds);
  live = h.live;
  are = h.are;
  unasked = h.unasked;
  kinds = all_filter (λ (x : Drive). IsDriveAt x.open_number h.live) (has_its_open m.list) (with_hooked d ds) (hooked_all (λ (x : Drive). IsDriveAt x.open_number h.live) d ds kind h.kinds);
}

-- THE DRIVE OF A NUMBER

some_same : (x y : Drive) → Some x ≡ Some y → x ≡ y
some_same x y e = cc

found_all : (P : Drive → Type 0) (ds : List Drive) (n : ℕ) (d : Drive) → AllByRecursion P ds → drive_numbered n ds ≡ Some d → P d
found_all P [] n d all e = absurd (let bad : None ≡ Some d = e in cc)
found_all P (x ∷ xs) n d all e = by (x.number == n) e (λ is. found_all P xs n d all.1 is)
  where
    by : (b : Bool) → cond b (Some x) (find (is_drive n) xs) ≡ Some d → (drive_numbered n xs ≡ Some d → P d) → P d
    by true is rest = subst P (some_same x d is) all.0
    by false is rest = rest is

-- its open is a drive's that lives
pub numbered_lives : (m : Many) (ds : List Drive) (n : ℕ) (d : Drive) → AreHooked None m ds → drive_numbered n ds ≡ Some d → HasDrive d.open_number m.list
numbered_lives m ds n d h some =
    has_drive m.graph m.list h.live d.open_number h.are (found_all (λ (x : Drive). IsDriveAt x.open_number h.live) ds n d h.kinds some)
    (found_all (λ (x : Drive). has_its_open m.list x ≡ true) ds n d (each_passes (has_its_open m.list) ds h.kept) some)
