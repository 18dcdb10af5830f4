-- Calls of a line, one after another.
use Rattle.std.proofs.Common.{◌≡◌, ℕ, List, [], ◌++◌, Option, Some, None, refl, sym, ap, ◌∙◌, append_assoc, arith}
use Rattle.std.proofs.lemmas.List.{append-nil}
use Rattle.nb_record.specs.Outside.{Outside, Gave, Took, KeepsCounts, Attaches, Reads, Writes, Passes}

-- where what is told stays as it was, nothing was read
pub Gave-nothing : (old now : Option (List ℕ)) → now ≡ old → Gave old now []
Gave-nothing None None e = tt
Gave-nothing None (Some now) e = absurd cc
Gave-nothing (Some old) None e = tt
Gave-nothing (Some old) (Some now) e = cc

-- where what is told stays as it was, nothing was taken
pub Took-nothing : (old now : Option (List ℕ)) → now ≡ old → Took old now []
Took-nothing None None e = tt
Took-nothing None (Some now) e = absurd cc
Took-nothing (Some old) None e = tt
Took-nothing (Some old) (Some now) e =
    let same : now ≡ old = cc in same ∙ sym (append-nil old)

-- what was read first, and what was read then
pub Gave-then : (a b c : Option (List ℕ)) (x y : List ℕ) → Gave a b x → Gave b c y → Gave a c (x ++ y)
Gave-then a b None x y p q = tt
Gave-then a None (Some c) x y p q = absurd q
Gave-then None (Some b) (Some c) x y p q = absurd p
Gave-then (Some a) (Some b) (Some c) x y p q = p ∙ ap (λ (w : List ℕ). x ++ w) q ∙ sym (append_assoc x y c)

-- what was taken first, and what was taken then
pub Took-then : (a b c : Option (List ℕ)) (x y : List ℕ) → Took a b x → Took b c y → Took a c (x ++ y)
Took-then a b None x y p q = tt
Took-then a None (Some c) x y p q = absurd q
Took-then None (Some b) (Some c) x y p q = absurd p
Took-then (Some a) (Some b) (Some c) x y p q = q ∙ ap (λ (w : List ℕ). w ++ y) p ∙ append_assoc a x y

pub KeepsCounts-same : (a : Outside) → KeepsCounts a a
KeepsCounts-same a = record { attach_count = omega arith; read_count = omega arith; write_count = omega arith }

pub KeepsCounts-then : (a b c : Outside) → KeepsCounts a b → KeepsCounts b c → KeepsCounts a c
KeepsCounts-then a b c p q = record {
  attach_count = omega (arith, p.attach_count, q.attach_count);
  read_count = omega (arith, p.read_count, q.read_count);
  write_count = omega (arith, p.write_count, q.write_count);
}

-- no call reads and takes nothing
pub Passes-nothing : (a : Outside) → Passes a a [] []
Passes-nothing a = record { gave = Gave-nothing a.left a.left refl; took = Took-nothing a.taken a.taken refl; counts = KeepsCounts-same a }

-- one after the other
pub Passes-then : (a b c : Outside) (read written read' written' : List ℕ) → Passes a b read written → Passes b c read' written'
    → Passes a c (read ++ read') (written ++ written')
Passes-then a b c read written read' written' p q = record {
  gave = Gave-then a.left b.left c.left read read' p.gave q.gave;
  took = Took-then a.taken b.taken c.taken written written' p.took q.took;
  counts = KeepsCounts-then a b c p.counts q.counts;
}

pub Attaches-passes : (a b : Outside) → Attaches a b → Passes a b [] []
Attaches-passes a b p = record { gave = Gave-nothing a.left b.left p.left_stays; took = Took-nothing a.taken b.taken p.taken_stays; counts = p.counts }

pub Reads-passes : (a b : Outside) (bytes : List ℕ) → Reads a b bytes → Passes a b bytes []
Reads-passes a b bytes p = record { gave = p.gave; took = Took-nothing a.taken b.taken p.taken_stays; counts = p.counts }

pub Writes-passes : (a b : Outside) (bytes : List ℕ) → Writes a b bytes → Passes a b [] bytes
Writes-passes a b bytes p = record { gave = Gave-nothing a.left b.left p.left_stays; took = p.took; counts = p.counts }
