-- What a cursor comes to next.
use Rattle.std.proofs.Common.{◌≡◌, List, [], ◌∷◌, ◌++◌, length, refl, sym, ◌∙◌, ap, subst, arith, append-nil, append_assoc}
use Rattle.nb_dhcpmsg.specs.declared.cursor.Cursor.{Cursor}
use Rattle.nb_dhcpmsg.specs.declared.cursor.Next.{Next}
use Rattle.nb_dhcpmsg.specs.declared.cursor.Next.TheVariants as next
use Rattle.nb_dhcpmsg.specs.Options.{TagValue, AreOptions, none_left}
use Rattle.nb_dhcpmsg.specs.Lefts.{parts_of_option, IsLeft, LeadsToOption, IsNextOption, IsTaken, Walks}
use Rattle.nb_dhcpmsg.proofs.OptionLemmas.{options_one, nothing_none}

-- the first field holds no option, and the others follow
pub record Shifted (a s : Cursor) : Type 0 where
  pub none : AreOptions a.field.now []
  pub field : s.field.now ≡ a.second.now
  pub second : s.second.now ≡ a.third.now
  pub third : s.third.now ≡ []

shift_back : (a s : Cursor) (os : List TagValue) → Shifted a s → IsLeft s os → IsLeft a os
shift_back a s os m h =
    let none = nothing_none h.third (subst (λ z. AreOptions z h.third) m.third h.in_third) in
    record {
      first = [];
      second = h.first;
      third = h.second;
      in_field = m.none;
      in_second = subst (λ z. AreOptions z h.first) m.field h.in_field;
      in_third = subst (λ z. AreOptions z h.second) m.second h.in_second;
      all = h.all ∙ ap (λ z. h.first ++ (h.second ++ z)) none ∙ ap (λ z. h.first ++ z) (append-nil h.second);
    }

shift_forth : (a s : Cursor) (os : List TagValue) → Shifted a s → IsLeft a os → IsLeft s os
shift_forth a s os m h =
    let none = options_one a.field.now h.first [] h.in_field m.none in
    record {
      first = h.second;
      second = h.third;
      third = [];
      in_field = subst (λ z. AreOptions z h.second) (sym m.field) h.in_second;
      in_second = subst (λ z. AreOptions z h.third) (sym m.second) h.in_third;
      in_third = none_left s.third.now m.third;
      all = h.all ∙ ap (λ z. z ++ (h.second ++ h.third)) none ∙ ap (λ z. h.second ++ z) (sym (append-nil h.third));
    }

-- what comes next after the shift comes next before it
pub before_shift : (a s b : Cursor) (n : Next) → Shifted a s → IsNextOption n s b → IsNextOption n a b
before_shift a s b next.End m h = shift_back a s [] m h
before_shift a s b next.Broken m h = λ os left. h os (shift_forth a s os m left)
before_shift a s b (next.Option o) m h = record {
  back = λ os left. shift_back a s (parts_of_option o ∷ os) m (h.back os left);
  forth = λ os left. h.forth os (shift_forth a s os m left);
  less =
      let l = h.less in
      let f : length s.field.now ≡ length a.second.now = ap length m.field in
      let g : length s.second.now ≡ length a.third.now = ap length m.second in
      let t : length s.third.now ≡ 0 = ap length m.third in
      omega (arith, l, f, g, t);
}

-- an option taken, or none
pub taken_next : (a b : Cursor) (n : Next) → IsTaken n a b → (n ≡ next.End → (a.second.now ≡ []) × (a.third.now ≡ [])) → IsNextOption n a b
taken_next a b next.End h ends =
    let e = ends refl in
    record {
      first = [];
      second = [];
      third = [];
      in_field = h.0;
      in_second = none_left a.second.now e.0;
      in_third = none_left a.third.now e.1;
      all = refl;
    }
taken_next a b next.Broken h ends = λ os left. h left.first left.in_field
taken_next a b (next.Option o) (p, second, third) ends = record {
  back = λ os left. record {
    first = parts_of_option o ∷ left.first;
    second = left.second;
    third = left.third;
    in_field = p.back left.first left.in_field;
    in_second = subst (λ z. AreOptions z left.second) second left.in_second;
    in_third = subst (λ z. AreOptions z left.third) third left.in_third;
    all = ap (λ z. parts_of_option o ∷ z) left.all;
  };
  forth = λ os left.
      let (more, is, rest) = p.forth left.first left.in_field in (
        more ++ (left.second ++ left.third),
        left.all ∙ ap (λ z. z ++ (left.second ++ left.third)) is,
        record {
          first = more;
          second = left.second;
          third = left.third;
          in_field = rest;
          in_second = subst (λ z. AreOptions z left.second) (sym second) left.in_second;
          in_third = subst (λ z. AreOptions z left.third) (sym third) left.in_third;
          all = refl;
        },
      );
  less =
      let l = p.less in
      let s : length b.second.now ≡ length a.second.now = ap length second in
      let t : length b.third.now ≡ length a.third.now = ap length third in
      omega (arith, l, s, t);
}

-- one option further
pub walks_on : (before : List TagValue) (start a b : Cursor) (o : TagValue) → Walks before start a → LeadsToOption o a b → Walks (before ++ o ∷ []) start b
walks_on before start a b o w l = record {
  back = λ os left. subst (λ z. IsLeft start z) (sym (append_assoc before (o ∷ []) os)) (w.back (o ∷ os) (l.back os left));
  forth = λ os left.
      let (more, is, at) = w.forth os left in
      let (rest, first, behind) = l.forth more at in
      (rest, is ∙ ap (λ z. before ++ z) first ∙ sym (append_assoc before (o ∷ []) rest), behind);
}

pub walks_none : (c : Cursor) → Walks [] c c
walks_none c = record { back = λ os left. left; forth = λ os left. (os, refl, left) }

-- a cursor over one field has its options
pub field_left : (c : Cursor) (os : List TagValue) → AreOptions c.field.now os → c.second.now ≡ [] → c.third.now ≡ [] → IsLeft c os
field_left c os a second third = record {
  first = os;
  second = [];
  third = [];
  in_field = a;
  in_second = none_left c.second.now second;
  in_third = none_left c.third.now third;
  all = sym (append-nil os);
}

pub left_one : (c : Cursor) (os ps : List TagValue) → IsLeft c os → IsLeft c ps → os ≡ ps
left_one c os ps a b =
    a.all
    ∙ ap (λ z. z ++ (a.second ++ a.third)) (options_one c.field.now a.first b.first a.in_field b.in_field)
    ∙ ap (λ z. b.first ++ (z ++ a.third)) (options_one c.second.now a.second b.second a.in_second b.in_second)
    ∙ ap (λ z. b.first ++ (b.second ++ z)) (options_one c.third.now a.third b.third a.in_third b.in_third)
    ∙ sym b.all
