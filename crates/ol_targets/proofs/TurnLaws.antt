-- Turns with what a line names.
use Rattle.std.specs.Prelude.{Bool, Err, None, Ok, Option, Result, Some, [], false, if◌then◌else◌, is_some, not, refl, sum_by, true, unwrap_or, ℕ, ◌^◌, ◌∷◌, ◌≡◌}
use Rattle.std.proofs.Common.{ap, ◌∙◌}
use Rattle.ol_values.specs.declared.event.Reply.{Reply}
use Rattle.ol_values.specs.declared.event.Reply.TheVariants.{BadRid, RowLocked, Slots, SpaceDown}
use Rattle.ol_values.specs.declared.record.Rid.{Rid}
use Rattle.ol_values.specs.declared.row.Row.{Row}
use Rattle.ol_values.specs.Config.{has_page}
use Rattle.ol_rules.specs.Lasting.{is_up}
use Rattle.ol_model.specs.Answering.{unless}
use Rattle.ol_model.specs.Machine.{Machine, Seat, config_of, first_free, with_seat}
use Rattle.ol_model.specs.SessionTurns.{full_slots, insert_at, insert_into, list_at, page_holder, sharing}
use Rattle.ol_targets.specs.Naming.{insert_found, list_found, page_of, space_of}

pub insert_led : (m : Machine) (n k : ℕ) (s : Seat) (txn reg : ℕ) (row : Row) (named : Option ℕ) → insert_into m n k s txn reg row named ≡ insert_found m n k s txn reg row (space_of m named)
insert_led m n k s txn reg row None = refl
insert_led m n k s txn reg row (Some space) = go (is_up m.lasting space)
  where
    go : (up : Bool)
        → unless m ((not up, SpaceDown space) ∷ []) (insert_at m n k s txn reg row space (first_free m space))
        ≡ insert_found m n k s txn reg row (let r : Result ℕ Reply = if up then Ok space else Err (SpaceDown space) in r)
    go true = refl
    go false = refl

pub list_led : (m : Machine) (k : ℕ) (s : Seat) (page : ℕ) (named : Option ℕ) → list_at m k s page named ≡ list_found m k s (page_of m page named)
list_led m k s page None = refl
list_led m k s page (Some space) = go (has_page (config_of m) space page) (is_up m.lasting space) refl refl
  where
    turn : Bool → Bool → Reply × Machine
    turn there up =
        let rids = full_slots m space page in
        let held = page_holder m k space page in
        unless m ((not there, BadRid) ∷ (not up, SpaceDown space) ∷ (is_some held, RowLocked (unwrap_or held 0)) ∷ []) (Slots (sum_by (λ (r : Rid). 2 ^ r.slot) rids), with_seat k (sharing s rids) m)

    go : (there up : Bool) → has_page (config_of m) space page ≡ there → is_up m.lasting space ≡ up
        → list_at m k s page (Some space) ≡ list_found m k s (let r : Result (ℕ × ℕ) Reply = if there then (if up then Ok (space, page) else Err (SpaceDown space)) else Err BadRid in r)
    go true true t u = refl
    go true false t u = ap (λ b. turn b (is_up m.lasting space)) t ∙ ap (turn true) u
    go false up t u = ap (λ b. turn b (is_up m.lasting space)) t
