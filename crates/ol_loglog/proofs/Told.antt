-- What the answers of readers say of the ring.
use Rattle.std.specs.Bool.{OnFalse}
use Rattle.std.specs.Option.{option_map}
use Rattle.std.specs.Prelude.{Bool, IfSome, List, None, Option, Some, [], false, is_some, slice_get, true, ◌∷◌, ◌≡◌}
use Rattle.std.proofs.Common.{ap, refl, sym}
use Rattle.ol_values.specs.declared.record.Record.{Record}
use Rattle.ol_rules.specs.Ring.{Use, to_back_up}
use Rattle.ol_log_state.specs.declared.places.Use.{Use as ToldUse}
use Rattle.ol_log_state.specs.Files.{told_use}
use Rattle.ol_log_state.specs.RingState.{IsNextToBack, RingState, config_of, ring_of}

-- no record is buffered
none_held : (l : List Record) → is_some (slice_get l 0) ≡ false → l ≡ []
none_held [] none = refl
none_held (r ∷ l) none = cc

pub held_false : (b : Bool) (l : List Record) → b ≡ is_some (slice_get l 0) → OnFalse b (l ≡ [])
held_false true l is = tt
held_false false l is = none_held l (sym is)

told_uniq : (o : Option Use) (t : ToldUse) → option_map told_use o ≡ Some t → option_map (λ (u : Use). u.uniq) o ≡ Some t.uniq
told_uniq None t is = cc
told_uniq (Some u) t is = ap (λ (x : Option ToldUse). option_map (λ (s : ToldUse). s.uniq) x) is

-- the use that is told is the next to be backed up
pub told_next : (s : RingState) (o : Option ToldUse) → o ≡ option_map told_use (to_back_up (config_of s) s.reuse (ring_of s)) → IfSome o (λ (t : ToldUse). IsNextToBack s t.uniq)
told_next s None is = tt
told_next s (Some t) is = told_uniq (to_back_up (config_of s) s.reuse (ring_of s)) t (sym is)
