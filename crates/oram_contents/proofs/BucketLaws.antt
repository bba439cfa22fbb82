-- What stands in the buckets after writes along a path.
use Rattle.std.proofs.Common.{◌≡◌, ◌<◌, ◌≤◌, ◌+◌, ◌^◌, ℕ, [], length, get_or, Some, Ok, ◌∙◌, ap, arith}
use Rattle.std.specs.Prelude.{slice_get}
use Rattle.std.proofs.lemmas.Option.{get_or_from_slice_get}
use Rattle.asc_base.specs.TreeShape.{bucket_of}
use Rattle.asc_base.proofs.ShapeFacts.{shape_layered}
use Rattle.bucket_codec.specs.Bucket.{bucket_text, opened, seed_in}
use Rattle.bucket_codec.proofs.Buckets.{seed_in-bucket}
use Rattle.oram_contents.specs.Contents.{Contents}
use Rattle.oram_contents.specs.Entries.{Keys, AreKeys}
use Rattle.oram_contents.specs.PathWritten.{sealed, slots_at}
use Rattle.oram_contents.specs.Shapes.{AreOfShape}
use Rattle.oram_contents.specs.Slots.{HasSeeds}
use Rattle.oram_contents.proofs.ContentsLaws.{sealed-on, opened-sealed}
use Rattle.oram_contents.proofs.HomeLaws.{path_inside}

module _ (keys : Keys) (lawful : AreKeys keys) (leaf w level : ℕ) (now : Contents)
    (within : leaf < 2 ^ keys.shape.levels) (few : w ≤ keys.shape.levels + 1) (less : level < w)
    (mirrored : length now.mirror ≡ keys.shape.buckets) where
  pub written_there : slice_get (sealed keys.pads keys.shape.levels leaf now.seed now.hand now.mirror w)
      (bucket_of keys.shape.levels leaf level)
      ≡ Some (bucket_text keys.pads (now.seed + level) (slots_at keys.shape.levels leaf now.hand level))
  written_there = sealed-on keys.pads keys.shape.levels leaf now.seed now.hand now.mirror w level less few within
      (omega (arith, mirrored, path_inside keys lawful leaf level within (omega (arith, less, few))))

  pub opened_there : AreOfShape keys.shape now.hand → 0 < now.seed → HasSeeds now
      → (opened keys.pads keys.shape (get_or (sealed keys.pads keys.shape.levels leaf now.seed now.hand now.mirror w)
      (bucket_of keys.shape.levels leaf level) []) ≡ Ok (slots_at keys.shape.levels leaf now.hand level))
      × (seed_in (get_or (sealed keys.pads keys.shape.levels leaf now.seed now.hand now.mirror w)
      (bucket_of keys.shape.levels leaf level) []) ≡ now.seed + level)
  opened_there of_shape some room =
      let text = bucket_text keys.pads (now.seed + level) (slots_at keys.shape.levels leaf now.hand level) in
      let bytes : get_or (sealed keys.pads keys.shape.levels leaf now.seed now.hand now.mirror w)
      (bucket_of keys.shape.levels leaf level) [] ≡ text =
      get_or_from_slice_get (sealed keys.pads keys.shape.levels leaf now.seed now.hand now.mirror w)
      (bucket_of keys.shape.levels leaf level) text [] written_there in
      let below : now.seed + level < 2 ^ 64 = omega
      (arith, less, few, room, (shape_layered keys.shape lawful.shape).levels_to) in (
        ap (opened keys.pads keys.shape) bytes ∙ opened-sealed keys.pads keys.shape leaf (now.seed + level) level
            now.hand (omega (arith, some)) below of_shape,
        ap seed_in bytes ∙ seed_in-bucket keys.pads (now.seed + level)
            (slots_at keys.shape.levels leaf now.hand level) below,
      )
