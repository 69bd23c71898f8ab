-- The samples, and their spellings, by computation. Assumes nothing.
use Rattle.std.proofs.Common.{refl}
use Rattle.telegram.specs.Catalogue.{rows}
use Rattle.spelling.specs.Walk.{walk}
use Rattle.samples.specs.Samples.{SamplesStand}
use Rattle.samples.specs.Forms.{FormsStand}

pub samples_are : SamplesStand
unfolding walk rows
samples_are = ((refl, (refl, (refl, (refl, (refl, (refl, (refl, (refl, (refl, (refl, (refl, (refl, (refl, (refl, (refl, (refl, (refl, (refl, (refl, (refl, tt)))))))))))))))))))), (refl, (refl, (refl, (refl, tt)))))

pub forms_are : FormsStand
unfolding walk rows
forms_are = ((refl, (refl, (refl, (refl, (refl, tt))))), (refl, (refl, (refl, (refl, (refl, (refl, (refl, (refl, (refl, (refl, (refl, (refl, (refl, (refl, (refl, (refl, (refl, (refl, (refl, (refl, (refl, (refl, (refl, (refl, tt)))))))))))))))))))))))), (refl, (refl, (refl, (refl, (refl, (refl, tt)))))))
