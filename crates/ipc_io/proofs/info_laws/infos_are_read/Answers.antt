use Rattle.ipc_io.specs.InfoLaws.{delta_info, lz4_info, values_info, worked_info, zstd_info}
use Rattle.ipc_io.proofs.info_laws.infos_are_read.Goals as goal

pub returns-clause-plain : goal.returns-clause-plain
returns-clause-plain c = worked_info

pub returns-clause-lz4 : goal.returns-clause-lz4
returns-clause-lz4 c = lz4_info

pub returns-clause-zstd : goal.returns-clause-zstd
returns-clause-zstd c = zstd_info

pub returns-clause-dictionary : goal.returns-clause-dictionary
returns-clause-dictionary c = values_info

pub returns-clause-delta : goal.returns-clause-delta
returns-clause-delta c = delta_info
