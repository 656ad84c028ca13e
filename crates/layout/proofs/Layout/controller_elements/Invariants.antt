-- `controller_elements`: the d-pad and the controls passed; then those and the sticks passed.
use Rattle.std.specs.Prelude.{◌≡◌, ◌∷◌, ◌++◌, ◌+◌, map, take}
use Rattle.layout.specs.Layout.{control_list, element_list, bounds_of, stick_list}
use Rattle.layout.proofs.Layout.controller_elements.Given as goal

abbrev pub invariant-loop-c : goal.invariant-loop-c
invariant-loop-c l =
    record {
      count : l.out.count ≡ l.c-index + 1;
      items : element_list l.out ≡ l.fn.self.dpad ∷ map (λ c. c.bounds) (take l.c-index (control_list l.fn.self));
    }

abbrev pub invariant-loop-r : goal.invariant-loop-r
invariant-loop-r l =
    let s = l.fn.self in
    record {
      count : l.out.count ≡ s.count + 1 + l.r-index;
      items : element_list l.out ≡ s.dpad ∷ (bounds_of s ++ take l.r-index (stick_list s));
    }
