use Rattle.std.proofs.Common.{◌≡◌, ℕ, ◌+◌, ◌-◌, ◌<◌, List, [], ◌∷◌, ◌++◌, Vec, Global, length, map, get_or, arith, ap, sym, subst, ◌∙◌, Result, Ok, Err, OnErr}
use Rattle.std.proofs.Math.ListN.{set}
use Rattle.std.proofs.Math.Seq.{map-set_same}
use Rattle.std.proofs.lemmas.List.{map-set, length-map, get_or-map}
use Rattle.ol_ports.specs.Drive.{append_last, blocks_in_order}
use Rattle.ol_outside.specs.Volumes.{BlocksFit, last_length}
use Rattle.ol_outside.proofs.LastVolume.{set-append_last, length-stream-append_last, last_length-append_last, blocks-fit-append_last}
use Rattle.ol_outside.proofs.memory_drive.Volumes.append.Goals as goal

OnErr-any : {T E P : Type 0} (r : Result T E) → P → OnErr r P
OnErr-any (Ok x) p = tt
OnErr-any (Err e) p = p

abbrev blocks_of : Vec (List ℕ) Global → List (List ℕ)
blocks_of v = v.items

-- a refused push leaves the volumes
kept : (c : goal.After-from_residual) → map blocks_of (set c.self.inside.volumes.items (c.len-last.result - 1) c.push.new.self) ≡ c.args.self.now
kept c =
    let items = c.self.inside.volumes.items in
    let volume = c.index_mut-volume.result.now in
    let new = c.push.new.self in
    let last = c.len-last.result - 1 in
    let same : blocks_of new ≡ blocks_of (get_or items last volume) =
    c.in_err-push.ensures.items ∙ ap blocks_of c.index_mut-volume.ensures.value
    in
    map-set_same blocks_of items last new volume same ∙ c.self.view_is

pub invariant_of-self : goal.invariant_of-self
invariant_of-self c =
    subst BlocksFit (sym (kept c)) (subst BlocksFit c.self.view_is c.self.invariant)

pub returns-in_err-push-clause-err : goal.returns-in_err-push-clause-err
returns-in_err-push-clause-err c = OnErr-any c.from_residual.result (kept c)

-- and one that is done appends the block
grown : (c : goal.In_ok-push) → map blocks_of (set c.self.inside.volumes.items (c.len-last.result - 1) c.push.new.self) ≡ append_last c.args.self.now c.args.block.now
grown c =
    let items = c.self.inside.volumes.items in
    let volume = c.index_mut-volume.result.now in
    let new = c.push.new.self in
    let last = c.len-last.result - 1 in
    let block = c.args.block.now in
    let seen = c.self.view_is in
    let within : last < length items = omega (arith, ap length seen, length-map items blocks_of) in
    let at : last + 1 ≡ length (map blocks_of items) = omega (arith, ap length seen, length-map items blocks_of) in
    let more : blocks_of new ≡ get_or (map blocks_of items) last [] ++ block ∷ [] =
    c.in_ok-push.ensures.items
    ∙ ap (λ (v : Vec (List ℕ) Global). blocks_of v ++ block ∷ []) c.index_mut-volume.ensures.value
    ∙ ap (λ (l : List (List ℕ)). l ++ block ∷ []) (sym (get_or-map blocks_of items last volume [] within))
    in
    map-set blocks_of items last new
    ∙ set-append_last (map blocks_of items) last (blocks_of new) block at more
    ∙ ap (λ (v : List (List (List ℕ))). append_last v block) seen

pub invariant_of-self-2 : goal.invariant_of-self-2
invariant_of-self-2 c =
    subst BlocksFit (sym (grown c)) (blocks-fit-append_last c.args.self.now c.args.block.now (subst BlocksFit c.self.view_is c.self.invariant) c.requires.room)

pub returns-clause-ok : goal.returns-clause-ok
returns-clause-ok c = grown c

pub returns-clause-last : goal.returns-clause-last
returns-clause-last c = ap last_length (grown c) ∙ last_length-append_last c.args.self.now c.args.block.now

pub returns-clause-blocks : goal.returns-clause-blocks
returns-clause-blocks c =
    ap (λ (v : List (List (List ℕ))). length (blocks_in_order v)) (grown c) ∙ length-stream-append_last c.args.self.now c.args.block.now
