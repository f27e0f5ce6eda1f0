-- What functions of the codec say to each other of parameters: nobody has to believe anything here.
use Rattle.std.specs.Prelude.{length, Ok, Err}
use Rattle.octets.specs.Answers.{Said}
use Rattle.octets.specs.declared.Place.{Place}
use Rattle.parameters.specs.Parameters.{Parameters}
use Rattle.parameters.specs.declared.ParameterOctets.{ParameterOctets}
use Rattle.parameters.specs.declared.reading.ParametersRead.{ParametersRead}

-- the octets of PID, DCS and UDL
abbrev pub octets_of : Parameters → ParameterOctets
octets_of p = record { pid = p.pid; dcs = p.dcs; udl = p.udl }

-- of parameters that were read: these, how many octets the data have, and the place after them
abbrev pub counted : Said (Parameters × Place) → Said ParametersRead
counted (Ok read) = Ok (record { parameters = octets_of read.0; octets = length read.0.ud; next = read.1 })
counted (Err why) = Err why
